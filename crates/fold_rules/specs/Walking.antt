-- Where indices lead from a place.
use Rattle.std.specs.Prelude.{ℕ, ℤ, pos, List, [], Option, Some, None, option_map}
use Rattle.ir_meaning.specs.Address.{displacements, displacements_into, sum_from}
use Rattle.lto_bits.specs.Word.{wrapped}
use Rattle.ir_tree.specs.Forms.{Form}
use Rattle.fold_rules.specs.declared.address.Walk.{Walk}

-- by how many bytes each index leads on, within a shape or nowhere
abbrev pub displacements_in : Option Form → List ℤ → List ℤ
displacements_in None is = []
displacements_in (Some shape) is = displacements_into shape is

-- the offset, modulo 2 ^ 64, to which indices lead from a place
abbrev pub offset_behind : Walk → List ℤ → ℕ
offset_behind walk is = wrapped 64 (sum_from walk.place (displacements_in (option_map (λ s. s.now) walk.inside) is))

-- the offset, modulo 2 ^ 64, to which indices lead from an offset of an object of this shape
abbrev pub offset_from : Form → ℕ → List ℤ → ℕ
offset_from shape offset is = wrapped 64 (sum_from (pos offset) (displacements shape is))
