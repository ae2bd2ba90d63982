-- Address computation (LangRef, "getelementptr Instruction").
use Rattle.std.specs.Prelude.{ℕ, zero, suc, ◌+◌, ◌^◌, nat_lt, Bool, true, false, not, ◌&&◌, ◌||◌, if◌then◌else◌, ℤ, pos, ◌+ℤ◌, ◌*ℤ◌, int_le, nat_abs, List, [], ◌∷◌, Option, Some, None}
use Rattle.ir_tree.specs.Forms.{Form, Forms}
use Rattle.ir_tree.specs.Layout.{size as size_of}
use Rattle.ir_meaning.specs.Memory.{Memory, object_size}
use Rattle.lto_bits.specs.Word.{wrapped}
use Rattle.ir_meaning.specs.declared.value.Base.{Base}
use Rattle.ir_meaning.specs.declared.value.Value.{Value}
use Rattle.ir_meaning.specs.declared.value.Value.TheVariants.{Pointer, Poison}
use Rattle.ir_tree.specs.Forms.{int, pointer, array, structure, no_parts, part}
use Rattle.ir_tree.specs.Layout.{begins}

-- what an index does to a shape: the part that it leads to, and by how many bytes
abbrev pub at_part : {X : Type 0} → Bool → ℕ → Forms → ℕ → (Form → ℕ → X) → X → X
at_part packed place no_parts k go none = none
at_part packed place (part f fs) zero go none = go f (begins packed place f)
at_part packed place (part f fs) (suc k) go none = at_part packed (begins packed place f + size_of f) fs k go none

abbrev pub steps_into : {X : Type 0} → Form → ℤ → (Form → ℤ → X) → X → X
steps_into (int w) i go none = none
steps_into pointer i go none = none
steps_into (array n of) i go none = go of (i *ℤ pos (size_of of))
steps_into (structure packed parts) i go none = at_part packed 0 parts (nat_abs i) (λ f place. go f (pos place)) none

-- by how many bytes each index into a shape leads on
abbrev pub displacements_into : Form → List ℤ → List ℤ
displacements_into shape [] = []
displacements_into shape (i ∷ is) = steps_into shape i (λ f by. by ∷ displacements_into f is) []

-- by how many bytes each index leads on: the first goes along an array of the shape, the others into the shape
abbrev pub displacements : Form → List ℤ → List ℤ
displacements shape [] = []
displacements shape (i ∷ is) = (i *ℤ pos (size_of shape)) ∷ displacements_into shape is

abbrev pub sum_from : ℤ → List ℤ → ℤ
sum_from z [] = z
sum_from z (d ∷ ds) = sum_from (z +ℤ d) ds

abbrev pub is_within : ℕ → ℤ → Bool
is_within size z = int_le (pos 0) z && int_le z (pos size)

-- the place and each place after a displacement is within the object
abbrev pub stays_within : ℕ → ℤ → List ℤ → Bool
stays_within size z [] = is_within size z
stays_within size z (d ∷ ds) = is_within size z && stays_within size (z +ℤ d) ds

abbrev pub are_all_zero : List ℤ → Bool
are_all_zero [] = true
are_all_zero (pos zero ∷ is) = are_all_zero is
are_all_zero (_ ∷ is) = false

-- from this offset by these indices, in an object of this size; `inbounds` counts where an index isn't zero, and an
-- offset that is no number of 64 bits counts as poison
unfoldable pub new_offset : Bool → Form → ℕ → ℕ → List ℤ → Option ℕ
new_offset inbounds shape size offset indices =
    if nat_lt offset (2 ^ 64) && (not inbounds || (are_all_zero indices || stays_within size (pos offset) (displacements shape indices)))
    then Some (wrapped 64 (sum_from (pos offset) (displacements shape indices)))
    else None

abbrev pub pointer_or_poison : Base → Option ℕ → Value
pointer_or_poison x None = Poison
pointer_or_poison x (Some o) = Pointer x o

abbrev pub address_of : Memory → Bool → Form → Value → Option (List ℤ) → Value
address_of memory inbounds shape (Pointer x offset) (Some indices) =
    pointer_or_poison x (new_offset inbounds shape (object_size memory x) offset indices)
address_of memory inbounds shape _ _ = Poison
