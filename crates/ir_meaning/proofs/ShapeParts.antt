-- Sizes and parts of shapes.
use Rattle.std.proofs.Common.{◌≡◌, ℕ, zero, suc, ◌+◌, ◌^◌, ◌≤◌, ◌<◌, ℤ, pos, Bool, List, [], ◌∷◌, length, get_or, refl, ap, sym, ◌∙◌, subst, arith}
use Rattle.ir_tree.specs.Forms.{Form, int, pointer, array, structure, forms_of, list_of-forms_of}
use Rattle.std.specs.Prelude.{nat_abs}
use Rattle.ir_tree.specs.Layout.{size, place, begins, HasPart, IsLaidOut, AreLaidOut}
use Rattle.ir_meaning.specs.Address.{at_part, displacements_into}

pub size_most : (f : Form) → IsLaidOut f → size f ≤ 2 ^ 31
size_most (int w) h = omega (arith, h.1)
size_most pointer h = omega arith
size_most (array n of) h = h.0
size_most (structure packed parts) h = h.0

pub has_part : (f : Form) (packed : Bool) (fs : List Form) (k : ℕ) → f ≡ structure packed (forms_of fs) → k < length fs → HasPart f k
has_part f packed fs k is h = subst (λ g. HasPart g k) (sym is) (subst (λ gs. k < length gs) (sym (list_of-forms_of fs)) h)

-- the part of a struct at an index
pub part_at : {X : Type 0} (packed : Bool) (from : ℕ) (fs : List Form) (k : ℕ) (f : Form) (go : Form → ℕ → X) (none : X) → k < length fs → f ≡ get_or fs k f →
    at_part packed from (forms_of fs) k go none ≡ go f (place packed from (forms_of fs) k)
part_at packed from [] k f go none h is = absurd (omega (arith, h))
part_at packed from (g ∷ fs) zero f go none h is = ap (λ x. go x (begins packed from g)) (sym is)
part_at packed from (g ∷ fs) (suc k) f go none h is = part_at packed (begins packed from g + size g) fs k f go none (omega (arith, h)) is

pub no_part : {X : Type 0} (packed : Bool) (from : ℕ) (fs : List Form) (k : ℕ) (go : Form → ℕ → X) (none : X) → length fs ≤ k → at_part packed from (forms_of fs) k go none ≡ none
no_part packed from [] k go none h = refl
no_part packed from (g ∷ fs) zero go none h = absurd (omega (arith, h))
no_part packed from (g ∷ fs) (suc k) go none h = no_part packed (begins packed from g + size g) fs k go none (omega (arith, h))

pub laid_part : (fs : List Form) (k : ℕ) (f : Form) → AreLaidOut (forms_of fs) → k < length fs → f ≡ get_or fs k f → IsLaidOut f
laid_part [] k f h at is = absurd (omega (arith, at))
laid_part (g ∷ fs) zero f h at is = rw is h.0
laid_part (g ∷ fs) (suc k) f h at is = laid_part fs k f h.1 (omega (arith, at)) is

pub laid_parts : (f : Form) (packed : Bool) (fs : List Form) → f ≡ structure packed (forms_of fs) → IsLaidOut f → AreLaidOut (forms_of fs)
laid_parts f packed fs is h = let all = subst IsLaidOut is h in all.1

pub leads_nowhere : (shape : Form) (packed : Bool) (fs : List Form) (i : ℤ) (k : ℕ) (is : List ℤ) →
    shape ≡ structure packed (forms_of fs) → k ≡ nat_abs i → length fs ≤ k → displacements_into shape (i ∷ is) ≡ []
leads_nowhere shape packed fs i k is e ek h =
    ap (λ (s : Form). displacements_into s (i ∷ is)) e
    ∙ ap (λ (j : ℕ). at_part {X = List ℤ} packed 0 (forms_of fs) j (λ g p. pos p ∷ displacements_into g is) []) (sym ek)
    ∙ no_part {X = List ℤ} packed 0 fs k (λ g p. pos p ∷ displacements_into g is) [] h
