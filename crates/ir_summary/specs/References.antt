-- What bodies and initialisers refer to, in the order of their text.
use Rattle.std.specs.Prelude.{ℕ, nat_eq, if◌then◌else◌, List, [], ◌∷◌, ◌++◌}
use Rattle.std.specs.List.{flat_map}
use Rattle.ir_tree.specs.Items.{Item, phi_item, line_item, end_item, items, operands}
use Rattle.ir_tree.specs.Wholes.{init_operands}
use Rattle.ir_tree.specs.declared.function.Function.{Function}
use Rattle.ir_tree.specs.declared.function.Variable.{Variable}
use Rattle.ir_tree.specs.declared.instr.Instr.{Instr}
use Rattle.ir_tree.specs.declared.instr.Instr.TheVariants as kind
use Rattle.ir_tree.specs.declared.module.GlobalValue.{GlobalValue}
use Rattle.ir_tree.specs.declared.module.GlobalValue.TheVariants as global
use Rattle.ir_tree.specs.declared.operand.Argument.{Argument}
use Rattle.ir_tree.specs.declared.operand.Operand.{Operand}
use Rattle.ir_tree.specs.declared.operand.Operand.TheVariants as operand

-- the name of a symbol; nothing else refers to a global value
abbrev pub named : Operand → List (List ℕ)
named (operand.Symbol symbol offset) = symbol.name ∷ []
named _ = []

abbrev pub all_named : List Argument → List (List ℕ)
all_named [] = []
all_named (a ∷ more) = named a.operand ++ all_named more

abbrev pub operands_named : List Operand → List (List ℕ)
operands_named operands = flat_map named operands

-- all that a body names: operands of phis, instructions and terminators, callees among them
abbrev pub body_names : Function → List (List ℕ)
body_names f = flat_map (λ item. all_named (operands item)) (items f)

abbrev pub initial_names : Variable → List (List ℕ)
initial_names v = operands_named (init_operands v.init)

-- all that a global value names; a declaration names nothing
abbrev pub global_names : GlobalValue → List (List ℕ)
global_names (global.Variable v) = initial_names v
global_names (global.Function f) = body_names f

-- a call is direct where its callee is a symbol itself, whatever the type that is written
abbrev pub directly : Operand → List (List ℕ)
directly (operand.Symbol symbol offset) = if nat_eq offset 0 then symbol.name ∷ [] else []
directly _ = []

abbrev pub called : Instr → List (List ℕ)
called (kind.Call result callee arguments) = directly callee
called _ = []

abbrev pub callee : Item → List (List ℕ)
callee (phi_item b phi) = []
callee (line_item b k line) = called line.instr
callee (end_item b t) = []

-- the callees of the direct calls of a body
abbrev pub body_callees : Function → List (List ℕ)
body_callees f = flat_map callee (items f)
