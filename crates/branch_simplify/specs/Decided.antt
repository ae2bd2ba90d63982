-- The one block to which a terminator leads, whatever happens before it, and the edges that are lost as it becomes a jump there.
use Rattle.std.specs.Prelude.{ℕ, nat_eq, if◌then◌else◌, List, [], ◌∷◌, Option, Some, None}
use Rattle.ir_tree.specs.Flow.{successors}
use Rattle.ir_tree.specs.declared.block.Case.{Case}
use Rattle.ir_tree.specs.declared.block.Terminator.{Terminator}
use Rattle.ir_tree.specs.declared.block.Terminator.TheVariants.{Branch, Jump, Return, Switch, Unreachable}
use Rattle.ir_tree.specs.declared.operand.Operand.{Operand}
use Rattle.ir_tree.specs.declared.operand.Operand.TheVariants.{Number}
use Rattle.ir_meaning.specs.Act.{case_target, side}

-- the bits of an operand that is an integer constant
abbrev pub constant : Operand → Option ℕ
constant (Number width bits) = Some bits
constant _ = None

abbrev pub branch_target : Option ℕ → ℕ → ℕ → Option ℕ
branch_target (Some bits) if_true if_false = Some (side if_true if_false bits)
branch_target None if_true if_false = if nat_eq if_true if_false then Some if_true else None

abbrev pub switch_target : Option ℕ → ℕ → List Case → Option ℕ
switch_target (Some bits) default cases = Some (case_target cases default bits)
switch_target None default [] = Some default
switch_target None default (c ∷ cs) = None

-- the block to which a `br` or a `switch` leads where its operand is a constant, its successors are one block, or it has no cases
abbrev pub decided : Terminator → Option ℕ
decided (Return argument) = None
decided (Jump target) = None
decided (Branch condition if_true if_false) = branch_target (constant condition) if_true if_false
decided (Switch width value default cases) = switch_target (constant value) default cases
decided Unreachable = None

abbrev pub jump_or : Option ℕ → Terminator → Terminator
jump_or (Some target) t = Jump target
jump_or None t = t

-- a decided terminator jumps to its block, and any other stays
abbrev pub straight : Terminator → Terminator
straight t = jump_or (decided t) t

-- ---- edges that are lost

abbrev pub without_first : ℕ → List ℕ → List ℕ
without_first n [] = []
without_first n (t ∷ ts) = if nat_eq t n then ts else t ∷ without_first n ts

abbrev pub all_but_one : Option ℕ → List ℕ → List ℕ
all_but_one None ts = []
all_but_one (Some n) ts = without_first n ts

-- the successors of the edges that a terminator loses: one edge of a decided one stays
abbrev pub lost : Terminator → List ℕ
lost t = all_but_one (decided t) (successors t)
