use Rattle.std.proofs.Common.{◌≡◌, ◌<◌, ◌/◌, ◌%◌, ◌∙◌, sym, ap, length, get_or, false, arith}
use Rattle.std.specs.Prelude.{◌==◌}
use Rattle.std.specs.Int.{bit_at}
use Rattle.std.proofs.lemmas.Nat.Bits.{shr_and_one}
use Rattle.std.proofs.lemmas.List.{get_or_read}
use Rattle.lto_sets.proofs.Rows.{length-row, get_or-row, word_within}
use Rattle.lto_sets.proofs.bits.Bits.has.Goals as goal

pub index-word-requires : goal.index-word-requires
index-word-requires c =
    let size = c.self.inside.size in
    let below : c.args.member < size = omega (arith, c.requires, length-row size c.self.inside.words.items, ap length c.self.view_is) in
    omega (arith, word_within size (length c.self.inside.words.items) c.args.member below c.self.invariant.long, c.self.inside.words.ok)

pub returns : goal.returns
returns c =
    let size = c.self.inside.size in
    let words = c.self.inside.words.items in
    let k = c.args.member in
    let below : k < size = omega (arith, c.requires, length-row size words, ap length c.self.view_is) in
    let inside : k / 64 < length words = word_within size (length words) k below c.self.invariant.long in
    let e : c.index-word.result.now ≡ get_or words (k / 64) 0 = get_or_read c.self.inside.words.items (c.args.member / 64) _ inside c.index-word.ensures 0 in
    ap (λ n. n == 1) (shr_and_one c.index-word.result.now (k % 64))
    ∙ ap (λ w. bit_at w (k % 64) == 1) e
    ∙ sym (get_or-row size words k below)
    ∙ ap (λ s. get_or s k false) c.self.view_is
