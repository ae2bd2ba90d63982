-- Where further indices lead from a place.
use Rattle.std.specs.Prelude.{ℕ, Bool, not, ◌&&◌, ◌||◌, if◌then◌else◌, ℤ, pos, List, [], Option, Some, None}
use Rattle.ir_tree.specs.Layout.{IsLaidOut}
use Rattle.ir_meaning.specs.Address.{are_all_zero, displacements, displacements_into, stays_within, sum_from}
use Rattle.lto_bits.specs.Word.{wrapped}
use Rattle.ir_machine.specs.declared.walk.Next.{Next}
use Rattle.ir_machine.specs.declared.walk.Next.TheVariants.{Along, Into, Nowhere}
use Rattle.ir_machine.specs.declared.walk.Walk.{Walk}

abbrev pub IsSized : Next → Type 0
IsSized (Along shape) = IsLaidOut shape.now
IsSized (Into shape) = IsLaidOut shape.now
IsSized Nowhere = Unit {0}

-- by how many bytes each index leads on
abbrev pub displacements_at : Next → List ℤ → List ℤ
displacements_at (Along shape) is = displacements shape.now is
displacements_at (Into shape) is = displacements_into shape.now is
displacements_at Nowhere is = []

-- the offset behind these displacements, by indices that are all zero or not; none where `inbounds` makes it poison
abbrev pub ends_by : Bool → Walk → Bool → List ℤ → Option ℕ
ends_by inbounds w zeros ds =
    if not inbounds || ((w.zero && zeros) || (w.within && stays_within w.size (pos w.offset) ds))
    then Some (wrapped 64 (sum_from (pos w.offset) ds))
    else None

-- the offset behind further indices
abbrev pub ends_at : Bool → Walk → List ℤ → Option ℕ
ends_at inbounds w is = ends_by inbounds w (are_all_zero is) (displacements_at w.next is)
