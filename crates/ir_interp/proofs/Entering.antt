-- Parameters that are written one after another, from the last on.
use Rattle.std.proofs.Common.{◌≡◌, ℕ, zero, suc, ◌<◌, ◌≤◌, nat_eq, if◌then◌else◌, List, [], ◌∷◌, ◌++◌, take, drop, length, get_or, refl, sym, ap, subst, ◌∙◌, arith}
use Rattle.std.proofs.Math.Seq.{drop-cons}
use Rattle.ir_tree.specs.declared.operand.Symbol.{Symbol}
use Rattle.ir_meaning.specs.Frame.{Locals}
use Rattle.ir_meaning.specs.Memory.{Memory as MeantMemory}
use Rattle.ir_machine.specs.Meant.{meant}
use Rattle.ir_machine.specs.declared.memory.Memory.{Memory}
use Rattle.ir_machine.specs.declared.scalar.Scalar.{Scalar}
use Rattle.ir_machine.specs.declared.scalar.Scalar.TheVariants.{Poison}
use Rattle.ir_interp.specs.Locals.{AreLocals, IsValid, register_at}
use Rattle.ir_interp.specs.declared.registers.Registers.{Registers}
use Rattle.ir_interp.proofs.Reading.{bound_locals}
use Rattle.ir_interp.specs.Calls.{AreValid, all_meant}
use Rattle.ir_interp.specs.Entering.{ParamsFit, params_meant}

pub fit_more : (n n' : ℕ) (xs : List ℕ) (k : ℕ) → n ≤ n' → k < length xs → get_or xs k 0 < n' → ParamsFit n (take k xs) → ParamsFit n' (take (suc k) xs)
fit_more n n' [] k le l at h = absurd (omega (arith, l))
fit_more n n' (x ∷ xs) zero le l at h = (at, none xs) where
  none : (ys : List ℕ) → ParamsFit n' (take zero ys)
  none [] = tt
  none (y ∷ ys) = tt
fit_more n n' (x ∷ xs) (suc k) le l at h = (omega (arith, le, h.0), fit_more n n' xs k le (omega (arith, l)) at h.1)

pub fit_at : (n : ℕ) (xs : List ℕ) (k : ℕ) → k < length xs → ParamsFit n xs → get_or xs k 0 < n
fit_at n [] k l h = absurd (omega (arith, l))
fit_at n (x ∷ xs) zero l h = h.0
fit_at n (x ∷ xs) (suc k) l h = fit_at n xs k (omega (arith, l)) h.1

-- the last of those that are left
pub last_left : (vs all : List Scalar) (v : Scalar) → vs ++ v ∷ [] ≡ take (suc (length vs)) all →
    (vs ≡ take (length vs) all) × (drop (length vs) all ≡ v ∷ drop (suc (length vs)) all)
last_left [] [] v e = absurd (cc e)
last_left [] (w ∷ all) v e = (none (w ∷ all), ap (λ (x : Scalar). x ∷ all) (sym (first v w (take zero all) e))) where
  none : (xs : List Scalar) → [] ≡ take zero xs
  none [] = refl
  none (x ∷ xs) = refl

  first : (x y : Scalar) (ys : List Scalar) → x ∷ [] ≡ y ∷ ys → x ≡ y
  first x y ys f = cc f
last_left (w ∷ ws) [] v e = absurd (cc e)
last_left (w ∷ ws) (y ∷ all) v e =
    let head : w ≡ y = cc e in
    let tail : ws ++ v ∷ [] ≡ take (suc (length ws)) all = cc e in
    let rest = last_left ws all v tail in
    (ap (λ (x : Scalar). x ∷ ws) head ∙ ap (λ (xs : List Scalar). y ∷ xs) rest.0, rest.1)

-- registers that were never written are no locals
pub no_locals : (names : List Symbol) (m : Memory) (memory : MeantMemory) (r : Registers) → ((x : ℕ) → register_at r x ≡ Poison) → AreLocals names m memory r []
no_locals names m memory r h = record {
  means = λ x. ap (meant names) (h x);
  valid = λ x. subst (λ (v : Scalar). IsValid names m memory v) (sym (h x)) (tt, tt);
}

pub valid_left : (names : List Symbol) (m : Memory) (memory : MeantMemory) (all : List Scalar) (k : ℕ) (v : Scalar) (rest : List Scalar) → AreValid names m memory all → drop k all ≡ v ∷ rest → IsValid names m memory v
valid_left names m memory [] zero v rest h e = absurd (cc e)
valid_left names m memory [] (suc k) v rest h e = absurd (cc e)
valid_left names m memory (w ∷ all) zero v rest h e = let one : w ≡ v = cc e in subst (λ (x : Scalar). IsValid names m memory x) one h.0
valid_left names m memory (w ∷ all) (suc k) v rest h e = valid_left names m memory all k v rest h.1 e

pub param_written : (names : List Symbol) (m : Memory) (memory : MeantMemory) (xs : List ℕ) (all : List Scalar) (k : ℕ) (v : Scalar) (r r' : Registers) → k < length xs →
    drop k all ≡ v ∷ drop (suc k) all → AreValid names m memory all → ((x : ℕ) → register_at r' x ≡ (if nat_eq (get_or xs k 0) x then v else register_at r x)) →
    AreLocals names m memory r (params_meant (drop (suc k) xs) (all_meant names (drop (suc k) all))) → AreLocals names m memory r' (params_meant (drop k xs) (all_meant names (drop k all)))
param_written names m memory xs all k v r r' l e valid written a =
    subst (λ (vs : List Scalar). AreLocals names m memory r' (params_meant (drop k xs) (all_meant names vs))) (sym e)
    (subst (λ (ys : List ℕ). AreLocals names m memory r' (params_meant ys (all_meant names (v ∷ drop (suc k) all)))) (sym (drop-cons xs k 0 l))
    (bound_locals names m memory r r' (params_meant (drop (suc k) xs) (all_meant names (drop (suc k) all))) (get_or xs k 0) v (meant names v) written refl
    (valid_left names m memory all k v (drop (suc k) all) valid e) a))

drop_none : {X : Type 0} (xs : List X) → drop zero xs ≡ xs
drop_none [] = refl
drop_none (x ∷ xs) = refl

-- all of them are written
pub all_written : (names : List Symbol) (m : Memory) (memory : MeantMemory) (r : Registers) (xs : List ℕ) (all : List Scalar) (k : ℕ) → k ≡ 0 →
    AreLocals names m memory r (params_meant (drop k xs) (all_meant names (drop k all))) → AreLocals names m memory r (params_meant xs (all_meant names all))
all_written names m memory r xs all k e a =
    subst (λ (ls : Locals). AreLocals names m memory r ls)
    (ap (λ (j : ℕ). params_meant (drop j xs) (all_meant names (drop j all))) e
    ∙ ap (λ (ys : List ℕ). params_meant ys (all_meant names (drop zero all))) (drop_none xs)
    ∙ ap (λ (vs : List Scalar). params_meant xs (all_meant names vs)) (drop_none all)) a
