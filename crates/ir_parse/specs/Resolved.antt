-- What holds of functions and variables with their names resolved.
use Rattle.std.specs.Prelude.{◌≡◌, Bool, false, List, [], ◌++◌, Ok}
use Rattle.ir_parse_parts.specs.declared.raw.Block.{Block}
use Rattle.ir_parse_parts.specs.declared.raw.FunctionHeader.{FunctionHeader}
use Rattle.ir_parse_parts.specs.declared.raw.Variable as raw
use Rattle.ir_parse_parts.specs.declared.shape.Typed.{Typed}
use Rattle.ir_tree.specs.Flow.{locals}
use Rattle.ir_tree.specs.Formed.{Distinct, Formed, IsShape, numbers}
use Rattle.ir_tree.specs.Forms.{Form}
use Rattle.ir_tree.specs.declared.function.Function.{Function}
use Rattle.ir_tree.specs.declared.function.Variable.{Variable}
use Rattle.ir_tree.specs.Wholes.{VariableFormed}
use Rattle.ir_parse_values.specs.Blocks.{function_in}
use Rattle.ir_parse_names.specs.Types.{Types, expanded}
use Rattle.ir_parse_names.specs.Variables.{variable_in}
use Rattle.ir_parse.specs.Worked.{worked, worked_blocks, worked_head}
use Rattle.ir_parse.specs.Written.{IsWritten, ShapeWritten, TypesWritten, VariableWritten}

-- locals and blocks get numbers of their own, whatever is written
abbrev pub DefinitionsDiffer : Type 0
DefinitionsDiffer =
    (types : Types) (head : FunctionHeader) (blocks : List Block) (noinline optnone : Bool) (f : Function)
    → function_in types head blocks noinline optnone ≡ Ok f → Distinct (locals f ++ numbers f)

-- a shape that expands is one that memory may hold
abbrev pub ShapesAreWithin : Type 0
ShapesAreWithin =
    (types : Types) (typed : Typed) (shape : Form) → TypesWritten types → ShapeWritten typed.shape
    → expanded types typed ≡ Ok shape → IsShape shape

-- what is resolved of a function that the grammar makes is formed
abbrev pub FunctionsAreFormed : Type 0
FunctionsAreFormed =
    (types : Types) (head : FunctionHeader) (blocks : List Block) (noinline optnone : Bool) (f : Function)
    → TypesWritten types → IsWritten head blocks noinline optnone
    → function_in types head blocks noinline optnone ≡ Ok f → Formed f

-- and so is a variable
abbrev pub VariablesAreFormed : Type 0
VariablesAreFormed =
    (types : Types) (v : raw.Variable) (resolved : Variable) → TypesWritten types → VariableWritten v
    → variable_in types v ≡ Ok resolved → VariableFormed resolved

-- a function is written so, and resolves
abbrev pub OneResolves : Type 0
OneResolves =
    TypesWritten [] × IsWritten worked_head worked_blocks false false × (function_in [] worked_head worked_blocks false false ≡ Ok worked)
