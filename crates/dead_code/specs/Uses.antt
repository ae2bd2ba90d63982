-- The uses of locals in a function, in the order of its text.
use Rattle.std.specs.Prelude.{ℕ, Bool, true, false, ◌==◌, if◌then◌else◌, List, [], ◌∷◌, ◌++◌, Option, Some, None}
use Rattle.ir_tree.specs.declared.block.Block.{Block}
use Rattle.ir_tree.specs.declared.instr.Incoming.{Incoming}
use Rattle.ir_tree.specs.declared.instr.Instr.{Instr}
use Rattle.ir_tree.specs.declared.instr.Instr.TheVariants.{Address, Alloca, Binary, Call, Cast, Freeze, Icmp, Load, Phi as StrayPhi, Select, Store}
use Rattle.ir_tree.specs.declared.instr.Line.{Line}
use Rattle.ir_tree.specs.declared.instr.Phi.{Phi}
use Rattle.ir_tree.specs.declared.operand.Argument.{Argument}
use Rattle.ir_tree.specs.declared.operand.Operand.{Operand}
use Rattle.ir_tree.specs.declared.operand.Operand.TheVariants.{Local}
use Rattle.ir_meaning.specs.Needed.{is_effect}
use Rattle.ir_edit.specs.Uses.{blocks_uses as uses_found}
use Rattle.dead_code.specs.declared.uses.Use.{Use}

abbrev pub operand_uses : Option ℕ → Operand → List Use
operand_uses reader (Local x) = record { reader = reader; read = x } ∷ []
operand_uses reader _ = []

abbrev pub arguments_uses : Option ℕ → List Argument → List Use
arguments_uses reader [] = []
arguments_uses reader (a ∷ more) = operand_uses reader a.operand ++ arguments_uses reader more

abbrev pub edges_uses : Option ℕ → List Incoming → List Use
edges_uses reader [] = []
edges_uses reader (e ∷ es) = operand_uses reader e.value ++ edges_uses reader es

-- a phi that doesn't stand first reads nothing: it gives poison
abbrev pub instr_uses : Option ℕ → Instr → List Use
instr_uses reader (Binary op flags width left right) = operand_uses reader left ++ operand_uses reader right
instr_uses reader (Icmp predicate reg left right) = operand_uses reader left ++ operand_uses reader right
instr_uses reader (Cast op from value to) = operand_uses reader value
instr_uses reader (Select condition if_true if_false) = operand_uses reader condition ++ (operand_uses reader if_true.operand ++ operand_uses reader if_false.operand)
instr_uses reader (Freeze reg value) = operand_uses reader value
instr_uses reader (Alloca shape align) = []
instr_uses reader (Load reg address align) = operand_uses reader address
instr_uses reader (Store reg value address align) = operand_uses reader value ++ operand_uses reader address
instr_uses reader (Address inbounds shape base indices) = operand_uses reader base ++ arguments_uses reader indices
instr_uses reader (Call result callee arguments) = operand_uses reader callee ++ arguments_uses reader arguments
instr_uses reader (StrayPhi reg incoming) = []

abbrev pub phi_uses : Phi → List Use
phi_uses p = edges_uses (Some p.local) p.incoming

-- an instruction without an effect and without a local is read by nobody
abbrev pub named_uses : Option ℕ → Instr → List Use
named_uses None i = []
named_uses (Some x) i = instr_uses (Some x) i

abbrev pub line_uses : Line → List Use
line_uses line = if is_effect line.instr then instr_uses None line.instr else named_uses line.local line.instr

abbrev pub blocks_uses : List Block → List Use
blocks_uses bs = uses_found phi_uses line_uses (operand_uses None) bs

-- ---- what one reader reads

abbrev pub is_reader : Option ℕ → Option ℕ → Bool
is_reader None None = true
is_reader (Some x) (Some y) = x == y
is_reader _ _ = false

-- what this reader reads in these uses
abbrev pub read_by : Option ℕ → List Use → List ℕ
read_by reader [] = []
read_by reader (u ∷ us) = if is_reader reader u.reader then u.read ∷ read_by reader us else read_by reader us
