-- The blocks that entries are for, counted.
use Rattle.std.proofs.Common.{◌≡◌, ℕ, ◌+◌, Bool, List, [], ◌∷◌, refl, sym, ap, ◌∙◌, IsTrue, ◌↔◌, true, false}
use Rattle.std.specs.Prelude.{nat_eq, cond, map, count_by}
use Rattle.std.proofs.lemmas.List.Sums.{sum_by-cons}
use Rattle.ir_tree.specs.declared.function.Function.{Function}
use Rattle.ir_tree.specs.declared.instr.Incoming.{Incoming}
use Rattle.ir_tree.specs.Flow.{edges}
use Rattle.ir_tree.specs.Rules.{place, OnEdges}
use Rattle.ir_verify.specs.Edged.{SameCounts, Agree}

count_map : {X : Type 0} (f : X → ℕ) (p : ℕ) (xs : List X) → count_by (λ q. nat_eq q p) (map f xs) ≡ count_by (λ x. nat_eq (f x) p) xs
count_map f p [] = refl
count_map f p (x ∷ xs) =
    sum_by-cons (λ q. cond (nat_eq q p) 1 0) (f x) (map f xs)
    ∙ ap (λ n. cond (nat_eq (f x) p) 1 0 + n) (count_map f p xs)
    ∙ sym (sum_by-cons (λ y. cond (nat_eq (f y) p) 1 0) x xs)

module _ (f : Function) (b : ℕ) (es : List Incoming) (sources row : List ℕ) (these : sources ≡ map (λ e. place f.blocks e.from) es) (those : row ≡ edges f b) where
  counted : (p : ℕ) → count_by (λ q. nat_eq q p) sources ≡ count_by (λ e. nat_eq (place f.blocks e.from) p) es
  counted p = ap (λ (xs : List ℕ). count_by (λ q. nat_eq q p) xs) these ∙ count_map (λ e. place f.blocks e.from) p es

  expected : (p : ℕ) → count_by (λ q. nat_eq q p) row ≡ count_by (λ q. nat_eq q p) (edges f b)
  expected p = ap (λ (xs : List ℕ). count_by (λ q. nat_eq q p) xs) those

  pub off_edges : (same : Bool) → IsTrue same ↔ SameCounts sources row → same ≡ false → OnEdges f b es → ⊥
  off_edges same h none on = let t = h.1 (λ p. counted p ∙ on.each p ∙ sym (expected p)) in cc

  pub on_when : (same agree : Bool) → IsTrue same ↔ SameCounts sources row → same ≡ true → IsTrue agree ↔ Agree es → IsTrue agree ↔ OnEdges f b es
  on_when same agree h is k =
      (λ t. record { each = λ p. sym (counted p) ∙ h.0 is p ∙ expected p; equal = k.0 t }, λ on. k.1 on.equal)
