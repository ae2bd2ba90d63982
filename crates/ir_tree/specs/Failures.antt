-- Why a call has no answer.
use Rattle.ir_tree.specs.declared.failure.Failure.{Failure}
use Rattle.ir_tree.specs.declared.failure.Failure.TheVariants.{NoMemory, Fault}

-- so much is known of the fault, where there is one
abbrev pub IfFault : {F : Type 0} → Failure F → (F → Type 0) → Type 0
IfFault NoMemory P = Unit {0}
IfFault (Fault fault) P = P fault
