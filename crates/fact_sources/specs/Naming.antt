-- Whether operands name one of these locals, anywhere in a function.
use Rattle.std.specs.Prelude.{ℕ, Bool, false, ◌||◌, ◌==◌, List, [], ◌∷◌, Some, None}
use Rattle.ir_tree.specs.declared.block.Block.{Block}
use Rattle.ir_tree.specs.declared.block.Terminator.{Terminator}
use Rattle.ir_tree.specs.declared.block.Terminator.TheVariants.{Branch, Jump, Return, Switch, Unreachable}
use Rattle.ir_tree.specs.declared.instr.Incoming.{Incoming}
use Rattle.ir_tree.specs.declared.instr.Instr.{Instr}
use Rattle.ir_tree.specs.declared.instr.Instr.TheVariants.{Address, Alloca, Binary, Call, Cast, Freeze, Icmp, Load, Phi as StrayPhi, Select, Store}
use Rattle.ir_tree.specs.declared.instr.Line.{Line}
use Rattle.ir_tree.specs.declared.instr.Phi.{Phi}
use Rattle.ir_tree.specs.declared.operand.Argument.{Argument}
use Rattle.ir_tree.specs.declared.operand.Operand.{Operand}
use Rattle.fact_sources.specs.Membership.{is_member}

-- one of the facts is of x
abbrev pub is_key : ℕ → List (ℕ × Operand) → Bool
is_key x [] = false
is_key x ((y, v) ∷ fs) = (y == x) || is_key x fs

abbrev pub arguments_name : (ℕ → Bool) → List Argument → Bool
arguments_name among [] = false
arguments_name among (a ∷ rest) = is_member among a.operand || arguments_name among rest

abbrev pub entries_name : (ℕ → Bool) → List Incoming → Bool
entries_name among [] = false
entries_name among (e ∷ es) = is_member among e.value || entries_name among es

abbrev pub instr_names : (ℕ → Bool) → Instr → Bool
instr_names among (Binary op flags width left right) = is_member among left || is_member among right
instr_names among (Icmp predicate reg left right) = is_member among left || is_member among right
instr_names among (Cast op from value to) = is_member among value
instr_names among (Select condition if_true if_false) = is_member among condition || (is_member among if_true.operand || is_member among if_false.operand)
instr_names among (Freeze reg value) = is_member among value
instr_names among (Alloca shape align) = false
instr_names among (Load reg address align) = is_member among address
instr_names among (Store reg value address align) = is_member among value || is_member among address
instr_names among (Address inbounds shape base indices) = is_member among base || arguments_name among indices
instr_names among (Call result callee arguments) = is_member among callee || arguments_name among arguments
instr_names among (StrayPhi reg incoming) = entries_name among incoming

abbrev pub lines_name : (ℕ → Bool) → List Line → Bool
lines_name among [] = false
lines_name among (l ∷ ls) = instr_names among l.instr || lines_name among ls

abbrev pub phis_name : (ℕ → Bool) → List Phi → Bool
phis_name among [] = false
phis_name among (p ∷ ps) = entries_name among p.incoming || phis_name among ps

abbrev pub end_names : (ℕ → Bool) → Terminator → Bool
end_names among (Return None) = false
end_names among (Return (Some a)) = is_member among a.operand
end_names among (Jump target) = false
end_names among (Branch condition if_true if_false) = is_member among condition
end_names among (Switch width value default cases) = is_member among value
end_names among Unreachable = false

abbrev pub block_names : (ℕ → Bool) → Block → Bool
block_names among b = phis_name among b.phis || (lines_name among b.lines || end_names among b.end)

abbrev pub blocks_name : (ℕ → Bool) → List Block → Bool
blocks_name among [] = false
blocks_name among (b ∷ bs) = block_names among b || blocks_name among bs
