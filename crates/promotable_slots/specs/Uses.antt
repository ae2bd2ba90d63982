-- The uses of locals in a function: as the addresses of loads and stores, and in every other way.
use Rattle.std.specs.Prelude.{List, [], ◌∷◌, ◌++◌, Option, Some, None}
use Rattle.ir_tree.specs.declared.block.Block.{Block}
use Rattle.ir_tree.specs.declared.block.Terminator.{Terminator}
use Rattle.ir_tree.specs.declared.block.Terminator.TheVariants.{Branch, Jump, Return, Switch, Unreachable}
use Rattle.ir_tree.specs.declared.instr.Incoming.{Incoming}
use Rattle.ir_tree.specs.declared.instr.Instr.{Instr}
use Rattle.ir_tree.specs.declared.instr.Instr.TheVariants.{Address, Alloca, Binary, Call, Cast, Freeze, Icmp, Load, Phi as StrayPhi, Select, Store}
use Rattle.ir_tree.specs.declared.instr.Line.{Line}
use Rattle.ir_tree.specs.declared.instr.Phi.{Phi}
use Rattle.ir_tree.specs.declared.operand.Argument.{Argument}
use Rattle.ir_tree.specs.declared.operand.Operand.{Operand}
use Rattle.ir_tree.specs.declared.operand.Operand.TheVariants.{Local}
use Rattle.ir_tree.specs.declared.operand.Reg.{Reg}
use Rattle.promotable_slots.specs.declared.uses.Use.{Use}

-- a use of the operand: as the address of an access of this type, or in another way where there is none
abbrev pub operand_uses : Option Reg → Operand → List Use
operand_uses access (Local x) = record { local = x; access = access } ∷ []
operand_uses access _ = []

abbrev pub argument_uses : List Argument → List Use
argument_uses [] = []
argument_uses (a ∷ more) = operand_uses None a.operand ++ argument_uses more

abbrev pub entry_uses : List Incoming → List Use
entry_uses [] = []
entry_uses (e ∷ es) = operand_uses None e.value ++ entry_uses es

-- a load uses its address as one of the type that it loads; a store does too, and uses what it stores in another way
abbrev pub instr_uses : Instr → List Use
instr_uses (Load reg address align) = operand_uses (Some reg) address
instr_uses (Store reg value address align) = operand_uses None value ++ operand_uses (Some reg) address
instr_uses (Binary op flags width left right) = operand_uses None left ++ operand_uses None right
instr_uses (Icmp predicate reg left right) = operand_uses None left ++ operand_uses None right
instr_uses (Cast op from value to) = operand_uses None value
instr_uses (Select condition if_true if_false) = operand_uses None condition ++ (operand_uses None if_true.operand ++ operand_uses None if_false.operand)
instr_uses (Freeze reg value) = operand_uses None value
instr_uses (Alloca shape align) = []
instr_uses (Address inbounds shape base indices) = operand_uses None base ++ argument_uses indices
instr_uses (Call result callee arguments) = operand_uses None callee ++ argument_uses arguments
instr_uses (StrayPhi reg incoming) = entry_uses incoming

abbrev pub phi_uses : List Phi → List Use
phi_uses [] = []
phi_uses (p ∷ ps) = entry_uses p.incoming ++ phi_uses ps

abbrev pub line_uses : List Line → List Use
line_uses [] = []
line_uses (l ∷ ls) = instr_uses l.instr ++ line_uses ls

abbrev pub end_uses : Terminator → List Use
end_uses (Return None) = []
end_uses (Return (Some a)) = operand_uses None a.operand
end_uses (Jump target) = []
end_uses (Branch condition if_true if_false) = operand_uses None condition
end_uses (Switch width value default cases) = operand_uses None value
end_uses Unreachable = []

unfoldable pub block_uses : Block → List Use
block_uses b = phi_uses b.phis ++ (line_uses b.lines ++ end_uses b.end)

-- in the order of the text
abbrev pub uses : List Block → List Use
uses [] = []
uses (b ∷ bs) = block_uses b ++ uses bs
