-- What the grammar makes of shapes, of operands, and of whole modules.
use Rattle.std.specs.Prelude.{◌≡◌, ℕ, List, All, Ok}
use Rattle.ir_parse.specs.Modules.{whole_module}
use Rattle.ir_lex.specs.Lexing.{AreTokens, Stands}
use Rattle.ir_lex.specs.Tok.{Tok}
use Rattle.ir_parse_names.specs.Marks.{marks_of}
use Rattle.ir_parse_names.specs.TypeNames.{type_names}
use Rattle.ir_parse_names.specs.Types.{Types}
use Rattle.ir_parse_operands.specs.ShapeForms.{memory_shape}
use Rattle.ir_parse_operands.specs.Values.{argument, operand}
use Rattle.ir_parse_parts.specs.declared.raw.Argument.{Argument}
use Rattle.ir_parse_parts.specs.declared.raw.Item.{Item}
use Rattle.ir_parse_parts.specs.declared.raw.Operand.{Operand}
use Rattle.ir_parse_parts.specs.declared.shape.Typed.{Typed}
use Rattle.ir_tree.specs.Formed.{IsReg}
use Rattle.ir_tree.specs.declared.operand.Reg.{Reg}
use Rattle.ir_parse.specs.Written.{ArgumentWritten, OperandWritten, ShapeWritten, TypesWritten}
use Rattle.ir_parse.specs.Items.{ItemWritten}
use Rattle.ir_parse.specs.Sized.{IsSized}

-- ---- tokens

-- the tokens of any text, and those before the first bad one
abbrev pub TokensAreSized : Type 0
TokensAreSized = (bytes : List ℕ) (ts : List Tok) → AreTokens bytes ts → All IsSized ts

abbrev pub FrontIsSized : Type 0
FrontIsSized = (bytes : List ℕ) (ts : List Tok) (line : ℕ) (here : List ℕ) → Stands bytes ts line here → All IsSized ts

-- ---- parts

-- the shapes that the grammar spells
abbrev pub ShapesAreWritten : Type 0
ShapesAreWritten = (ts : List Tok) (t : Typed) → All IsSized ts → memory_shape ts t → ShapeWritten t.shape

-- and the operands behind a type
abbrev pub OperandsAreWritten : Type 0
OperandsAreWritten = (ts : List Tok) (reg : Reg) (o : Operand) → IsReg reg → All IsSized ts → operand memory_shape reg ts o → OperandWritten o

abbrev pub ArgumentsAreWritten : Type 0
ArgumentsAreWritten = (ts : List Tok) (a : Argument) → All IsSized ts → argument memory_shape ts a → ArgumentWritten a

-- ---- whole modules

-- each item of a module that the grammar spells
abbrev pub ItemsAreWritten : Type 0
ItemsAreWritten = (ts : List Tok) (items : List Item) → All IsSized ts → whole_module ts items → All ItemWritten items

-- the types of such items
abbrev pub TypesAreWritten : Type 0
TypesAreWritten = (items : List Item) (types : Types) → All ItemWritten items → type_names (marks_of items) ≡ Ok types → TypesWritten types
