-- Two greatest families are one, and it has the marks that some justified family has.
use Rattle.std.proofs.Common.{◌≡◌, ℕ, Bool, true, false, refl, sym, ◌↔◌}
use Rattle.ir_tree.specs.Flow.{Equations, IsGreatest, IsMarked}

both_true : (a b : Bool) → (a ≡ true → b ≡ true) → (b ≡ true → a ≡ true) → a ≡ b
both_true true true h k = refl
both_true true false h k = sym (h refl)
both_true false true h k = k refl
both_true false false h k = refl

pub one_greatest : (e : Equations) (rows others : ℕ → ℕ → Bool) → IsGreatest e rows → IsGreatest e others → (b x : ℕ) → rows b x ≡ others b x
one_greatest e rows others g h b x = both_true (rows b x) (others b x) (h.greatest rows g.justified b x) (g.greatest others h.justified b x)

-- a greatest family has the marks that hold
pub greatest_marked : (e : Equations) (rows : ℕ → ℕ → Bool) → IsGreatest e rows → (b x : ℕ) → IsMarked e b x ↔ (rows b x ≡ true)
greatest_marked e rows g b x = (λ h. g.greatest h.0 h.1 b x h.2, λ m. (rows, g.justified, m))
