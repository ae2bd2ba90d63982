-- Where the parts of shapes begin, and where an index into a struct leads.
use Rattle.std.proofs.Common.{◌≡◌, ℕ, zero, suc, ◌+◌, ◌^◌, ◌≤◌, ◌<◌, ℤ, pos, ◌*ℤ◌, ◌*◌, Bool, List, [], ◌∷◌, length, get_or, ap, sym, ◌∙◌, subst, arith}
use Rattle.ir_tree.specs.Forms.{Form, structure, forms_of}
use Rattle.std.specs.Prelude.{nat_abs}
use Rattle.ir_tree.specs.Layout.{size, ends, place, offset, begins, IsLaidOut, AreLaidOut}
use Rattle.ir_tree.proofs.Layouts.{ends_least, within_of}
use Rattle.ir_meaning.specs.Address.{at_part, displacements_into}
use Rattle.ir_meaning.proofs.ShapeParts.{laid_parts, part_at}

-- a part begins within the struct
place_most : (packed : Bool) (o : ℕ) (fs : List Form) (k : ℕ) → AreLaidOut (forms_of fs) → k < length fs → place packed o (forms_of fs) k ≤ ends packed o (forms_of fs)
place_most packed o [] k h at = absurd (omega (arith, at))
place_most packed o (g ∷ fs) zero h at = omega (arith, ends_least packed (begins packed o g + size g) (forms_of fs) h.1)
place_most packed o (g ∷ fs) (suc k) h at = place_most packed (begins packed o g + size g) fs k h.1 (omega (arith, at))

pub offset_most : (f : Form) (packed : Bool) (fs : List Form) (k : ℕ) → f ≡ structure packed (forms_of fs) → IsLaidOut f → k < length fs → offset f k ≤ 2 ^ 31
offset_most f packed fs k is h at =
    let laid : AreLaidOut (forms_of fs) = laid_parts f packed fs is h in
    let within : ends packed 0 (forms_of fs) ≤ 2 ^ 31 = within_of f packed fs is h in
    let here : place packed 0 (forms_of fs) k ≤ 2 ^ 31 = omega (arith, place_most packed 0 fs k laid at, within) in
    subst (λ (g : Form). offset g k ≤ 2 ^ 31) (sym is) here

-- an index into a struct leads to its part, and by the part's offset on
pub leads_to_part : (shape : Form) (packed : Bool) (fs : List Form) (i : ℤ) (k : ℕ) (f : Form) (o : ℕ) (is : List ℤ) →
    shape ≡ structure packed (forms_of fs) → k ≡ nat_abs i → k < length fs → f ≡ get_or fs k f → o ≡ offset shape k →
    displacements_into shape (i ∷ is) ≡ (pos 1 *ℤ pos o) ∷ displacements_into f is
leads_to_part shape packed fs i k f o is e ek h ef eo =
    ap (λ (s : Form). displacements_into s (i ∷ is)) e
    ∙ ap (λ (j : ℕ). at_part {X = List ℤ} packed 0 (forms_of fs) j (λ g p. pos p ∷ displacements_into g is) []) (sym ek)
    ∙ part_at {X = List ℤ} packed 0 fs k f (λ g p. pos p ∷ displacements_into g is) [] h ef
    ∙ ap (λ (n : ℕ). pos n ∷ displacements_into f is) (sym (eo ∙ ap (λ (s : Form). offset s k) e))
    ∙ ap (λ (n : ℕ). pos n ∷ displacements_into f is) (once o)
  where
    once : (n : ℕ) → n ≡ 1 * n
    once n = omega arith
