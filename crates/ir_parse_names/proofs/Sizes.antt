-- Sizes of shapes within the limits.
use Rattle.std.proofs.Common.{◌≤◌, ◌^◌, ◌<◌, ℕ, arith, List, [], ◌∷◌, ◌++◌, length, get_or, zero, suc, refl, ap, sym, subst, ◌≡◌}
use Rattle.ir_tree.specs.Forms.{Form, int, pointer, array, structure, forms_of, list_of}
use Rattle.ir_parse_names.specs.Addresses.{part_at}
use Rattle.ir_tree.specs.Layout.{size, IsLaidOut, AreLaidOut}

pub size_most : (f : Form) → IsLaidOut f → size f ≤ 2 ^ 31
size_most (int w) h = omega (arith, h.1)
size_most pointer h = omega arith
size_most (array n of) h = h.0
size_most (structure packed parts) h = h.0

pub laid_push : (fs : List Form) (f : Form) → AreLaidOut (forms_of fs) → IsLaidOut f → AreLaidOut (forms_of (fs ++ f ∷ []))
laid_push [] f h last = (last, tt)
laid_push (g ∷ fs) f h last = (h.0, laid_push fs f h.1 last)

pub count_of : (fs : List Form) → length (list_of (forms_of fs)) ≡ length fs
count_of [] = refl
count_of (f ∷ fs) = ap (λ n. suc n) (count_of fs)

-- the part of a struct at an index, and that it is laid out
pub part_is : (fs : List Form) (k : ℕ) (f : Form) → k < length fs → f ≡ get_or fs k f → part_at (forms_of fs) k ≡ f
part_is [] k f lt is = absurd (omega (arith, lt))
part_is (g ∷ fs) zero f lt is = sym is
part_is (g ∷ fs) (suc k) f lt is = part_is fs k f (omega (arith, lt)) is

pub part_laid : (fs : List Form) (k : ℕ) (f : Form) → k < length fs → f ≡ get_or fs k f → AreLaidOut (forms_of fs) → IsLaidOut f
part_laid [] k f lt is h = absurd (omega (arith, lt))
part_laid (g ∷ fs) zero f lt is h = subst IsLaidOut (sym is) h.0
part_laid (g ∷ fs) (suc k) f lt is h = part_laid fs k f (omega (arith, lt)) is h.1
