use Rattle.std.proofs.Common.{◌≡◌, ◌-◌, ◌/◌, ◌%◌, ◌^◌, ◌≤◌, ◌∙◌, ℕ, List, Vec, Global, ap, set, replicate, arith, rules}
use Rattle.std.proofs.lemmas.Nat.Bits.{ones_shr}
use Rattle.lto_sets.proofs.Rows.{IsFull, full_cut, full_whole, row_full, IsRow-full}
use Rattle.lto_sets.proofs.bits.Bits.full.Goals as goal
use Rattle.lto_sets.proofs.bits.Bits.full.Goals.{then-rest-gt0, else-rest-gt0}

items_of : Vec ℕ Global → List ℕ
items_of v = v.items

pub invariant_of-result : goal.invariant_of-result
unfolding items_of
invariant_of-result c =
    let size = c.args.size in
    let ones : c.in_ok-words.words.items ≡ replicate c.word_count.result (2 ^ 64 - 1) = search rules in
    let full : IsFull size c.if-rest-gt0.words.items =
    elim c.if-rest-gt0.branch [
      | then-rest-gt0 w ↦
          let left : 64 - size % 64 ≤ 64 = omega arith in
          let kept : 64 - (64 - size % 64) ≡ size % 64 = omega arith in
          let cut : (2 ^ 64 - 1) / 2 ^ (64 - size % 64) ≡ 2 ^ (size % 64) - 1 = ones_shr 64 (64 - size % 64) left ∙ ap (λ n. 2 ^ n - 1) kept in
          full_cut size c.word_count.result _ c.if-rest-gt0.words.items c.word_count.ensures w.if-rest-gt0.true cut
          (ap items_of w.words-is ∙ ap (λ ws. set ws (size / 64) ((2 ^ 64 - 1) / 2 ^ (64 - size % 64))) ones)
      | else-rest-gt0 w ↦ full_whole size c.word_count.result c.if-rest-gt0.words.items c.word_count.ensures w.if-rest-gt0.false (ap items_of w.words-is ∙ ones)
    ] in
    IsRow-full size c.if-rest-gt0.words.items full

pub returns : goal.returns
unfolding items_of
returns c =
    let size = c.args.size in
    let ones : c.in_ok-words.words.items ≡ replicate c.word_count.result (2 ^ 64 - 1) = search rules in
    let full : IsFull size c.if-rest-gt0.words.items =
    elim c.if-rest-gt0.branch [
      | then-rest-gt0 w ↦
          let left : 64 - size % 64 ≤ 64 = omega arith in
          let kept : 64 - (64 - size % 64) ≡ size % 64 = omega arith in
          let cut : (2 ^ 64 - 1) / 2 ^ (64 - size % 64) ≡ 2 ^ (size % 64) - 1 = ones_shr 64 (64 - size % 64) left ∙ ap (λ n. 2 ^ n - 1) kept in
          full_cut size c.word_count.result _ c.if-rest-gt0.words.items c.word_count.ensures w.if-rest-gt0.true cut
          (ap items_of w.words-is ∙ ap (λ ws. set ws (size / 64) ((2 ^ 64 - 1) / 2 ^ (64 - size % 64))) ones)
      | else-rest-gt0 w ↦ full_whole size c.word_count.result c.if-rest-gt0.words.items c.word_count.ensures w.if-rest-gt0.false (ap items_of w.words-is ∙ ones)
    ] in
    row_full size c.if-rest-gt0.words.items full
