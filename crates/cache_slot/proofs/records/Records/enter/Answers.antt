use Rattle.std.proofs.Common.{◌≡◌, ◌++◌, ◌∷◌, [], List, ℕ, Option, Some, cond, length, length-append, arith, ap, sym, ◌∙◌}
use Rattle.std.specs.Str.{bytes_eq}
use Rattle.cache_slot.specs.declared.record.Record.TheVariants.{Entry}
use Rattle.cache_slot.specs.Records.{text_of}
use Rattle.cache_slot.proofs.Tabling.{text_entered, done}
use Rattle.cache_slot.proofs.records.Records.enter.Goals as goal

pub invariant_of-self : goal.invariant_of-self
invariant_of-self c =
    let old = c.args.self.now in
    let k : List ℕ = c.args.key in
    let more : c.with-self.result.items ≡ old.history.items ++ Entry k c.args.text c.args.failed ∷ [] =
    c.with-self.ensures ∙ (λ i. old.history.items ++ Entry (c.as_slice.ensures i) (c.as_slice-2.ensures i) c.args.failed ∷ []) in record {
      found = λ key.
          (done _ c.insert.result (c.insert.ensures.succeeds c.requires.room) c.insert.ensures.updates).0 key
          ∙ ap (λ (z : Option (List ℕ)). cond (bytes_eq k key) (Some c.args.text) z) (old.found key)
          ∙ sym (ap (text_of key) more ∙ text_entered key old.history.items k c.args.text c.args.failed c.requires.new);
      counted = (let l = ap length more in let len = length-append old.history.items (Entry k c.args.text c.args.failed ∷ []) in let n = old.counted in omega arith);
    }
