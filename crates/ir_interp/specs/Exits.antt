-- Where terminators over sources lead: the definition's exits, with blocks by their positions.
use Rattle.std.specs.Prelude.{◌≡◌, ℕ, ◌==◌, if◌then◌else◌, List, [], ◌∷◌, Option, Some, None}
use Rattle.ir_tree.specs.declared.operand.Symbol.{Symbol}
use Rattle.ir_meaning.specs.Act.{Leads', Leaves, Stuck, by_value, side}
use Rattle.ir_meaning.specs.Act as act
use Rattle.ir_meaning.specs.Frame.{Locals}
use Rattle.ir_meaning.specs.Memory.{Memory as MeantMemory}
use Rattle.ir_tree.specs.declared.cause.Cause.TheVariants.{UnreachableReached}
use Rattle.ir_meaning.specs.declared.value.Value.{Value as MeantValue}
use Rattle.ir_machine.specs.Meant.{meant}
use Rattle.ir_machine.specs.declared.memory.Memory.{Memory}
use Rattle.ir_machine.specs.declared.scalar.Scalar.{Scalar}
use Rattle.ir_interp.specs.Locals.{IsKnown, IsValid, source_meant}
use Rattle.ir_interp.specs.declared.source.Source.{Source}
use Rattle.ir_interp.specs.declared.exit.Case.{Case}
use Rattle.ir_interp.specs.declared.exit.Exit.{Exit}
use Rattle.ir_interp.specs.declared.exit.Exit.TheVariants.{Branch, Jump, Return, Switch, Unreachable}
use Rattle.ir_interp.specs.declared.exit.Left.{Left}
use Rattle.ir_interp.specs.declared.exit.Left.TheVariants.{Returned, To, Undefined}

abbrev pub case_target : List Case → ℕ → ℕ → ℕ
case_target [] default n = default
case_target (c ∷ cs) default n = if c.bits == n then c.target else case_target cs default n

abbrev pub answer_meant : List Symbol → Locals → Option Source → Option MeantValue
answer_meant names locals None = None
answer_meant names locals (Some s) = Some (source_meant names locals s)

abbrev pub exit_meant : List Symbol → Locals → Exit → act.Exit
exit_meant names locals (Return answer) = Leaves (answer_meant names locals answer)
exit_meant names locals (Jump target) = Leads' target
exit_meant names locals (Branch condition t f) = by_value 1 (side t f) (source_meant names locals condition)
exit_meant names locals (Switch width value default cases) = by_value width (case_target cases.items default) (source_meant names locals value)
exit_meant names locals Unreachable = Stuck UnreachableReached

abbrev pub IsExitKnown : List Symbol → Memory → MeantMemory → Exit → Type 0
IsExitKnown names m memory (Return None) = Unit {0}
IsExitKnown names m memory (Return (Some s)) = IsKnown names m memory s
IsExitKnown names m memory (Jump target) = Unit {0}
IsExitKnown names m memory (Branch condition t f) = IsKnown names m memory condition
IsExitKnown names m memory (Switch width value default cases) = IsKnown names m memory value
IsExitKnown names m memory Unreachable = Unit {0}

abbrev pub left_meant : List Symbol → Left → act.Exit
left_meant names (Returned None) = Leaves None
left_meant names (Returned (Some v)) = Leaves (Some (meant names v))
left_meant names (To target) = Leads' target
left_meant names (Undefined cause) = Stuck cause

abbrev pub IsValidLeft : List Symbol → Memory → MeantMemory → Left → Type 0
IsValidLeft names m memory (Returned (Some v)) = IsValid names m memory v
IsValidLeft names m memory _ = Unit {0}

-- a terminator leads where the definition's does, and what is returned is valid
abbrev pub IsLeft : List Symbol → Memory → MeantMemory → act.Exit → Left → Type 0
IsLeft names m memory exit left = (left_meant names left ≡ exit) × IsValidLeft names m memory left

abbrev pub IsBranch : ℕ → ℕ → Scalar → Left → Type 0
IsBranch t f v left = (names : List Symbol) (m : Memory) (memory : MeantMemory) → IsLeft names m memory (by_value 1 (side t f) (meant names v)) left

abbrev pub IsSwitch : ℕ → ℕ → List Case → Scalar → Left → Type 0
IsSwitch width default cases v left = (names : List Symbol) (m : Memory) (memory : MeantMemory) → IsLeft names m memory (by_value width (case_target cases default) (meant names v)) left
