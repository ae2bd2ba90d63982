-- The addresses of a program's symbols.
use Rattle.std.specs.Prelude.{ℕ, List, Option}
use Rattle.ir_tree.specs.declared.operand.Symbol.{Symbol}
use Rattle.ir_meaning.specs.Frame.{Signature}
use Rattle.ir_meaning.specs.Memory.{Memory as MeantMemory}
use Rattle.ir_machine.specs.declared.memory.Memory.{Memory}
use Rattle.ir_machine.specs.declared.scalar.Base.{Base}
use Rattle.ir_interp.specs.Locals.{IsValid}
use Rattle.machine_code.specs.MemoryAddresses as symbols
use Rattle.machine_code.specs.MemoryAddresses.{address_at}
use Rattle.machine_code.specs.declared.addresses.Addresses.{Addresses}

-- what the address of a symbol is based on, where it has one
abbrev pub base_in : Addresses → Symbol → Option Base
base_in t s = symbols.base_in t.bases s

-- each symbol has the address that it has in the program, or poison where it has none
abbrev pub HasAddresses : List Symbol → Signature → Addresses → Type 0
HasAddresses names sig t = symbols.HasAddresses names sig t.bases

-- each address is valid in this memory: a function is of the table of symbols, a block is as its handle says
abbrev pub AreValid : List Symbol → Memory → MeantMemory → Addresses → Type 0
AreValid names m memory t = (s : Symbol) (offset : ℕ) → IsValid names m memory (address_at (base_in t s) offset)
