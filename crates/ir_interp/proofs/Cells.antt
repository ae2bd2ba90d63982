-- Registers that grow and are written.
use Rattle.std.proofs.Common.{◌≡◌, ℕ, zero, suc, ◌<◌, ◌≤◌, Bool, true, false, nat_eq, if◌then◌else◌, List, [], ◌∷◌, ◌++◌, slice_get, set, take, replicate, length, refl, sym, ap, ◌∙◌, eqb-true, arith}
use Rattle.std.proofs.lemmas.Bool.{eqb-false}
use Rattle.ir_machine.specs.declared.scalar.Scalar.{Scalar}
use Rattle.ir_machine.specs.declared.scalar.Scalar.TheVariants.{Poison}
use Rattle.ir_machine.proofs.Holding.{get_set_other, get_set_same}
use Rattle.ir_interp.specs.Locals.{or_poison}

pub poison_everywhere : (n x : ℕ) → or_poison (slice_get (replicate n Poison) x) ≡ Poison
poison_everywhere zero x = refl
poison_everywhere (suc n) zero = refl
poison_everywhere (suc n) (suc x) = poison_everywhere n x

-- further registers hold poison, as those past the last
pub grown_reads : (vs : List Scalar) (n m x : ℕ) → length vs ≤ n → or_poison (slice_get (take n vs ++ replicate m Poison) x) ≡ or_poison (slice_get vs x)
grown_reads [] zero m x h = poison_everywhere m x
grown_reads [] (suc n) m x h = poison_everywhere m x
grown_reads (v ∷ vs) zero m x h = absurd (omega (arith, h))
grown_reads (v ∷ vs) (suc n) m zero h = refl
grown_reads (v ∷ vs) (suc n) m (suc x) h = grown_reads vs n m x (omega (arith, h))

pub written_reads : (vs : List Scalar) (k x : ℕ) (v : Scalar) → k < length vs →
    or_poison (slice_get (set vs k v) x) ≡ (if nat_eq k x then v else or_poison (slice_get vs x))
written_reads vs k x v h = by (nat_eq k x) refl where
  by : (b : Bool) → nat_eq k x ≡ b → or_poison (slice_get (set vs k v) x) ≡ (if b then v else or_poison (slice_get vs x))
  by true e = ap (λ (n : ℕ). or_poison (slice_get (set vs k v) n)) (sym (eqb-true k x e)) ∙ ap or_poison (get_set_same vs k v h)
  by false e = ap or_poison (get_set_other vs k x v (λ (f : x ≡ k). eqb-false k x e (sym f)))
