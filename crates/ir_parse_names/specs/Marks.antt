-- What names types and globals in a module, in the order of its text.
use Rattle.std.specs.Prelude.{ℕ, List, [], ◌∷◌, ◌++◌, Option, None, Some}
use Rattle.ir_lex.specs.Tok.{Tok}
use Rattle.ir_parse_parts.specs.declared.address.Level.{Level}
use Rattle.ir_parse_parts.specs.declared.address.Steps.{Steps}
use Rattle.ir_parse_parts.specs.declared.raw.Block as raw_block
use Rattle.ir_parse_parts.specs.declared.raw.Init as raw_init
use Rattle.ir_parse_parts.specs.declared.raw.InitHead as raw_head
use Rattle.ir_parse_parts.specs.declared.raw.InitHead.TheVariants as rh
use Rattle.ir_parse_parts.specs.declared.raw.InitPart as raw_part
use Rattle.ir_parse_parts.specs.declared.raw.InitPart.TheVariants as rp
use Rattle.ir_parse_parts.specs.declared.raw.Instr as raw_instr
use Rattle.ir_parse_parts.specs.declared.raw.Instr.TheVariants as ri
use Rattle.ir_parse_parts.specs.declared.raw.Item.{Item}
use Rattle.ir_parse_parts.specs.declared.raw.Item.TheVariants as item
use Rattle.ir_parse_parts.specs.declared.raw.Operand as raw_operand
use Rattle.ir_parse_parts.specs.declared.raw.Operand.TheVariants as ro
use Rattle.ir_parse_parts.specs.declared.raw.Terminator as raw_end
use Rattle.ir_parse_parts.specs.declared.raw.Terminator.TheVariants as re
use Rattle.ir_parse_parts.specs.declared.raw.Variable as raw_variable
use Rattle.ir_parse_parts.specs.declared.shape.Typed.{Typed}
use Rattle.ir_parse_parts.specs.Shapes as shapes
use Rattle.ir_parse_parts.specs.Shapes.{Written, WrittenParts}

pub data Mark : Type 0 where
  -- a type name, and the shape that it is given, where it isn't opaque
  type_name : (name : Tok) (typed : Option Typed) → Mark
  -- a type name that is used
  type_use : (name : Tok) → Mark
  -- a shape, and the shape of an `alloca` with its count; the names in it stand behind it
  shape : (typed : Typed) → Mark
  many : (typed : Typed) (count : ℕ) → Mark
  -- a global that is defined or declared, and one that is used
  global : (name : Tok) → Mark
  symbol : (name : Tok) → Mark
  -- a constant address
  address : (steps : Steps) → Mark

-- the type names in a shape
abbrev mutual
  pub uses : Written → List Mark
  uses (shapes.int w) = []
  uses shapes.pointer = []
  uses (shapes.array count of) = uses of
  uses (shapes.structure packed parts) = all_uses parts
  uses (shapes.named name) = type_use name ∷ []

  pub all_uses : WrittenParts → List Mark
  all_uses shapes.no_parts = []
  all_uses (shapes.part s more) = uses s ++ all_uses more

abbrev pub uses_if : Option Typed → List Mark
uses_if None = []
uses_if (Some typed) = uses typed.shape

-- those of the levels of a constant address, the last of which is the outermost and begins first
abbrev pub level_uses : List Level → List Mark
level_uses [] = []
level_uses (l ∷ ls) = level_uses ls ++ uses l.typed.shape

-- those of each, one behind the other
abbrev pub all : {A : Type 0} → (A → List Mark) → List A → List Mark
all f [] = []
all f (x ∷ xs) = f x ++ all f xs

abbrev pub typed_marks : Typed → List Mark
typed_marks typed = shape typed ∷ uses typed.shape

abbrev pub operand_marks : raw_operand.Operand → List Mark
operand_marks (ro.Global name) = symbol name ∷ []
operand_marks (ro.Address steps) = address steps ∷ level_uses steps.levels
operand_marks _ = []

abbrev pub both : raw_operand.Operand → raw_operand.Operand → List Mark
both left right = operand_marks left ++ operand_marks right

abbrev pub instr_marks : raw_instr.Instr → List Mark
instr_marks (ri.Binary op flags width left right) = both left right
instr_marks (ri.Icmp predicate reg left right) = both left right
instr_marks (ri.Cast op from value to) = operand_marks value
instr_marks (ri.Select condition if_true if_false) = operand_marks condition ++ both if_true.operand if_false.operand
instr_marks (ri.Freeze reg value) = operand_marks value
instr_marks (ri.Phi reg incoming) = all (λ i. operand_marks i.value) incoming
instr_marks (ri.Alloca typed count align) = many typed count ∷ uses typed.shape
instr_marks (ri.Load reg from align) = operand_marks from
instr_marks (ri.Store reg value to align) = both value to
instr_marks (ri.Address inbounds typed base indices) = typed_marks typed ++ (operand_marks base ++ all (λ a. operand_marks a.operand) indices)
instr_marks (ri.Call result callee arguments) = operand_marks callee ++ all (λ a. operand_marks a.operand) arguments

abbrev pub end_marks : raw_end.Terminator → List Mark
end_marks (re.Return None) = []
end_marks (re.Return (Some a)) = operand_marks a.operand
end_marks (re.Jump target) = []
end_marks (re.Branch condition if_true if_false) = operand_marks condition
end_marks (re.Switch width value default cases) = operand_marks value
end_marks re.Unreachable = []

abbrev pub block_marks : raw_block.Block → List Mark
block_marks b = all (λ l. instr_marks l.instr) b.lines ++ end_marks b.end

abbrev pub head_marks : raw_head.InitHead → List Mark
head_marks (rh.Plain operand) = operand_marks operand
head_marks _ = []

abbrev pub part_marks : raw_part.InitPart → List Mark
part_marks (rp.Typed typed head) = typed_marks typed ++ head_marks head
part_marks rp.End = []

abbrev pub init_marks : Option raw_init.Init → List Mark
init_marks None = []
init_marks (Some i) = head_marks i.root ++ all part_marks i.parts

abbrev pub variable_marks : raw_variable.Variable → List Mark
variable_marks v = global v.name ∷ (typed_marks v.typed ++ init_marks v.init)

abbrev pub item_marks : Item → List Mark
item_marks (item.Type name typed) = type_name name typed ∷ uses_if typed
item_marks (item.Variable v) = variable_marks v
item_marks (item.Declaration head) = global head.name ∷ []
item_marks (item.Definition head blocks) = global head.name ∷ all block_marks blocks
item_marks _ = []

abbrev pub marks_of : List Item → List Mark
marks_of items = all item_marks items
