-- Rows of marks, written one by one.
use Rattle.std.proofs.Common.{◌≡◌, ℕ, ◌+◌, ◌<◌, inl, inr, Bool, false, List, length, sym, ◌∙◌, ap, subst, arith}
use Rattle.std.specs.Prelude.{slice_set}
use Rattle.std.proofs.lemmas.Bool.{cases_eq}
use Rattle.std.proofs.lemmas.List.{ext_get_or, get_or-set_other, get_or-set_same}
use Rattle.lto_sets.specs.Sets.{contains}

-- ---- marks one behind another

pub mark_put : (s marks : List Bool) (i : ℕ) (m : Bool) → i < length s → ((k : ℕ) → k < i → contains s k ≡ contains marks k) → m ≡ contains marks i
    → (k : ℕ) → k < i + 1 → contains (slice_set s i m) k ≡ contains marks k
mark_put s marks i m inside before is k lt =
    elim (cases_eq k i) [
      | inl e ↦ ap (contains (slice_set s i m)) e ∙ get_or-set_same s i m false inside ∙ is ∙ ap (contains marks) (sym e)
      | inr ne ↦ get_or-set_other s i k m false ne ∙ before k (omega (arith, lt, ne))
    ]

pub all_marked : (s marks : List Bool) → length s ≡ length marks → ((k : ℕ) → k < length marks → contains s k ≡ contains marks k) → s ≡ marks
all_marked s marks long same = ext_get_or false s marks long (λ k lt. same k (subst (λ (n : ℕ). k < n) long lt))
