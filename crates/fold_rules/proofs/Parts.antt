-- Where an index into a struct leads.
use Rattle.std.proofs.Common.{◌≡◌, ℕ, ◌+◌, ◌^◌, ◌≤◌, ◌<◌, ℤ, pos, Bool, List, [], ◌∷◌, length, get_or, ap, sym, ◌∙◌}
use Rattle.ir_tree.specs.Forms.{Form, structure, forms_of}
use Rattle.std.specs.Prelude.{nat_abs}
use Rattle.ir_tree.specs.Layout.{offset}
use Rattle.ir_meaning.specs.Address.{at_part, displacements_into}
use Rattle.ir_meaning.proofs.ShapeParts.{part_at}

-- an index into a struct leads to its part, and by the part's offset on
pub leads_to_part : (shape : Form) (packed : Bool) (fs : List Form) (i : ℤ) (k : ℕ) (f : Form) (o : ℕ) (is : List ℤ) →
    shape ≡ structure packed (forms_of fs) → k ≡ nat_abs i → k < length fs → f ≡ get_or fs k f → o ≡ offset shape k →
    displacements_into shape (i ∷ is) ≡ pos o ∷ displacements_into f is
leads_to_part shape packed fs i k f o is e ek h ef eo =
    ap (λ (s : Form). displacements_into s (i ∷ is)) e
    ∙ ap (λ (j : ℕ). at_part {X = List ℤ} packed 0 (forms_of fs) j (λ g p. pos p ∷ displacements_into g is) []) (sym ek)
    ∙ part_at {X = List ℤ} packed 0 fs k f (λ g p. pos p ∷ displacements_into g is) [] h ef
    ∙ ap (λ (n : ℕ). pos n ∷ displacements_into f is) (sym (eo ∙ ap (λ (s : Form). offset s k) e))
