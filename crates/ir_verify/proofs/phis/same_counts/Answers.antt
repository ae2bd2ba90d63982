use Rattle.std.proofs.Common.{◌≡◌, ℕ, List, IsTrue, ◌↔◌, sym, ap, ◌∙◌, rules}
use Rattle.std.specs.Prelude.{nat_eq, count_by, cond}
use Rattle.std.proofs.lemmas.List.Sorted.{sum_by-IsPermutation, IsNonDecreasingBy-from_sort}
use Rattle.ir_verify.proofs.Counted.{counts_same}
use Rattle.ir_verify.proofs.phis.same_counts.Goals as goal

pub returns : goal.returns
returns c =
    let same : IsTrue c.eq.result ↔ (c.sort-2.new.self.items ≡ c.sort.new.self.items) = search rules in
    let left = c.in_ok-sort-2.ensures.permutation in
    let right = c.in_ok-sort.ensures.permutation in
    let row : c.in_ok-expected.expected.items ≡ c.args.row.now = search rules in
    let counts_left = λ (p : ℕ). sum_by-IsPermutation (λ q. cond (nat_eq q p) 1 0) c.args.sources.items c.sort-2.new.self.items left in
    let counts_right = λ (p : ℕ). sum_by-IsPermutation (λ q. cond (nat_eq q p) 1 0) c.in_ok-expected.expected.items c.sort.new.self.items right in
    let counts_row = λ (p : ℕ). ap (λ (xs : List ℕ). count_by (λ q. nat_eq q p) xs) row in (
      λ t p. sym (counts_left p) ∙ ap (λ (xs : List ℕ). count_by (λ q. nat_eq q p) xs) (same.0 t) ∙ counts_right p ∙ counts_row p,
      λ h. same.1 (counts_same c.sort-2.new.self.items c.sort.new.self.items (IsNonDecreasingBy-from_sort (λ x. x) c.sort-2.new.self.items c.in_ok-sort-2.ensures.sorted) (IsNonDecreasingBy-from_sort (λ x. x) c.sort.new.self.items c.in_ok-sort.ensures.sorted)
          (λ p. counts_left p ∙ h p ∙ sym (counts_row p) ∙ sym (counts_right p))),
    )
