-- What the merging calls keep: a module's own names, and initialisers in parts.
use Rattle.std.specs.Prelude.{ℕ, Bool, List}
use Rattle.std.specs.Borrow.{Bor}
use Rattle.std.specs.List.{list_any}
use Rattle.std.specs.Str.{bytes_eq}
use Rattle.ir_tree.specs.declared.init_node.InitHead.{InitHead}
use Rattle.ir_tree.specs.declared.init_node.InitHead.TheVariants.{Array, Bytes, Plain, Struct, Zeros}
use Rattle.ir_tree.specs.declared.init_node.InitPart.{InitPart}
use Rattle.ir_tree.specs.declared.init_node.InitPart.TheVariants.{End, Typed}
use Rattle.ir_meaning.specs.Refine.{Naming}
use Rattle.ir_meaning.specs.Rename.{operand_under}

-- ---- a module's own names

abbrev pub is_kept : List (Bor (List ℕ)) → List ℕ → Bool
is_kept keys name = list_any (λ key. bytes_eq name key.now) keys

-- ---- initialisers in parts

abbrev pub head_under : Naming → InitHead → InitHead
head_under t (Plain operand) = Plain (operand_under t operand)
head_under t Zeros = Zeros
head_under t (Bytes text) = Bytes text
head_under t Array = Array
head_under t (Struct packed) = Struct packed

abbrev pub part_under : Naming → InitPart → InitPart
part_under t (Typed shape head) = Typed shape (head_under t head)
part_under t End = End
