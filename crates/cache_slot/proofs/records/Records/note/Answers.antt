use Rattle.std.proofs.Common.{◌≡◌, ◌++◌, ◌∷◌, [], length, length-append, arith, ap, sym, ◌∙◌}
use Rattle.cache_slot.specs.Noted.{noted}
use Rattle.cache_slot.specs.Records.{text_of}
use Rattle.cache_slot.proofs.Tabling.{text_noted}
use Rattle.cache_slot.proofs.records.Records.note.Goals as goal

pub invariant_of-self : goal.invariant_of-self
invariant_of-self c =
    let old = c.args.self.now in
    let more : c.with-self.result.items ≡ old.history.items ++ noted c.args.note.now ∷ [] = c.with-self.ensures in record {
      found = λ key. old.found key ∙ sym (ap (text_of key) more ∙ text_noted key old.history.items (noted c.args.note.now) c.requires.note);
      counted = (let l = ap length more in let len = length-append old.history.items (noted c.args.note.now ∷ []) in let n = old.counted in omega arith);
    }
