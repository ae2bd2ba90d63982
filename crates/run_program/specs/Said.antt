-- How the ending of a run is told, and what is said of what it returned.
use Rattle.std.specs.Prelude.{◌≡◌, ◌⊎◌, ◌-◌, ◌^◌, ℕ, true, false, not, if◌then◌else◌, nat_eq, nat_lt, List, Option, Some, None}
use Rattle.ir_tree.specs.declared.operand.Reg.{Reg}
use Rattle.ir_tree.specs.declared.operand.Reg.TheVariants.{Int, Ptr}
use Rattle.ir_tree.specs.declared.operand.Symbol.{Symbol}
use Rattle.ir_meaning.specs.Fault as fault
use Rattle.ir_meaning.specs.Operate.{bits_of}
use Rattle.ir_meaning.specs.Run.{Ending, Failed, Returned, Running}
use Rattle.ir_meaning.specs.declared.value.Value.{Value}
use Rattle.ir_meaning.specs.declared.value.Value.TheVariants as value
use Rattle.lto_fault.specs.declared.refusal.Refusal.{Refusal}
use Rattle.lto_fault.specs.declared.refusal.Refusal.TheVariants.{NoMemory, OutOfSteps, Undefined, Uninit}
use Rattle.lto_fault.specs.declared.returned.Returned as line
use Rattle.lto_fault.specs.declared.returned.Returned.TheVariants as said

-- ---- how an ending is told

abbrev pub failure_refusal : List ℕ → List ℕ → ℕ → fault.Fault → Refusal
failure_refusal file function instruction (fault.Undefined why) = Undefined function file instruction why
failure_refusal file function instruction fault.Uninit = Uninit function file instruction

-- the refusal of a run for so many steps, where it didn't return; symbols are of these files
abbrev pub ending_refusal : (Symbol → List ℕ) → ℕ → Ending → Option Refusal
ending_refusal file steps Running = Some (OutOfSteps steps)
ending_refusal file steps (Returned answer) = None
ending_refusal file steps (Failed failure) = Some (failure_refusal (file failure.at.symbol) failure.at.symbol.name failure.at.instruction failure.why)

-- a number of w bits: a truth value where it is one bit, else a signed one in two's complement
abbrev pub number_said : ℕ → ℕ → line.Returned
number_said w bits =
    if nat_eq w 1 then said.Truth (not (nat_eq bits 0))
    else if nat_lt bits (2 ^ (w - 1)) then said.Number false bits
    else said.Number true (2 ^ w - bits)

-- what is no number of the width counts as poison
abbrev pub bits_said : ℕ → Option ℕ → line.Returned
bits_said w None = said.Poison
bits_said w (Some bits) = number_said w bits

abbrev pub typed_said : Option Reg → Value → line.Returned
typed_said None v = said.Poison
typed_said (Some Ptr) v = said.Poison
typed_said (Some (Int w)) v = bits_said w (bits_of w v)

abbrev pub value_said : Option Reg → Value → line.Returned
value_said gives (value.Number n) = typed_said gives (value.Number n)
value_said gives (value.Pointer base offset) = said.Pointer
value_said gives value.Poison = said.Poison

-- what is said of the answer of a function that gives this type
abbrev pub answer_said : Option Reg → Option Value → line.Returned
answer_said gives None = said.Nothing
answer_said gives (Some v) = value_said gives v

-- this refusal, or that memory ran out where it was made
abbrev pub IsTold : Refusal → Refusal → Type 0
IsTold why told = (told ≡ why) ⊎ (told ≡ NoMemory)
