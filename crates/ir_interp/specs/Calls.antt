-- Calls: what symbols are, and what a call of each asks for.
use Rattle.std.specs.Prelude.{◌≡◌, ℕ, ◌<◌, ◌⊎◌, List, [], ◌∷◌, length, slice_get, Option, Some, None}
use Rattle.ir_tree.specs.declared.operand.Reg.{Reg}
use Rattle.ir_tree.specs.declared.operand.Symbol.{Symbol}
use Rattle.ir_meaning.specs.Execute.{Asked, Broke, Effect, Went, calls_host, calls_kind}
use Rattle.ir_meaning.specs.Fault as fault
use Rattle.ir_meaning.specs.Frame as frame
use Rattle.ir_meaning.specs.Frame.{AFunction, AHost, AVariable, SymbolKind, Missing, Signature}
use Rattle.ir_meaning.specs.Memory.{Memory as MeantMemory}
use Rattle.ir_meaning.specs.declared.event.Event.TheVariants.{Wrote}
use Rattle.ir_tree.specs.declared.cause.Cause.TheVariants.{PoisonArgument}
use Rattle.ir_meaning.specs.declared.value.Value.{Value as MeantValue}
use Rattle.ir_meaning.specs.declared.value.Value.TheVariants.{Number}
use Rattle.ir_machine.specs.Meant.{meant, symbol_at}
use Rattle.ir_machine.specs.declared.memory.Memory.{Memory}
use Rattle.ir_machine.specs.declared.scalar.Scalar.{Scalar}
use Rattle.ir_interp.specs.Locals.{IsValid}
use Rattle.ir_interp.specs.declared.callee.Entity.{Entity}
use Rattle.ir_interp.specs.declared.callee.Entity.TheVariants as entity
use Rattle.ir_interp.specs.declared.callee.Resolved.{Resolved}
use Rattle.ir_interp.specs.declared.callee.Resolved.TheVariants as resolved
use Rattle.ir_interp.specs.declared.host.Host.{Host}
use Rattle.ir_interp.specs.declared.host.Host.TheVariants as host

abbrev pub host_meant : Host → frame.Host
host_meant host.PutChar = frame.PutChar
host_meant host.GetChar = frame.GetChar

-- what is not called is a variable, or has no definition
abbrev pub IsKind : Entity → SymbolKind → Type 0
IsKind (entity.Function params result) kind = kind ≡ AFunction params.items result
IsKind (entity.Host h) kind = kind ≡ AHost (host_meant h)
IsKind entity.Other kind = (kind ≡ Missing) ⊎ ((number : ℕ) × (kind ≡ AVariable number))

-- the table says what each of its symbols is
pub record AreKinds (names : List Symbol) (sig : Signature) (entities : List Entity) : Type 0 where
  pub long : length entities ≡ length names
  pub kinds : (i : ℕ) (e : Entity) → slice_get entities i ≡ Some e → IsKind e (sig.kind (symbol_at names i))

-- the effect of a call that was resolved
abbrev pub call_effect : List Symbol → List ℕ → MeantMemory → ℕ → List MeantValue → Resolved → Effect
call_effect names input memory place values (resolved.Function i) = Asked (symbol_at names i) values
call_effect names input memory place values (resolved.Host h) = calls_host (host_meant h) input memory place values
call_effect names input memory place values (resolved.Undefined cause) = Broke (fault.Undefined cause)

-- a call of the symbol of this index and kind asks for this
abbrev pub IsResolved : ℕ → Entity → Option Reg → List Reg → Resolved → Type 0
IsResolved i e result regs r = (names : List Symbol) (kind : SymbolKind) (input : List ℕ) (memory : MeantMemory) (place : ℕ) (values : List MeantValue) → IsKind e kind →
    calls_kind kind (symbol_at names i) input memory place result regs values ≡ call_effect names input memory place values r

-- a function that is asked for is one of so many
abbrev pub IsAmong : ℕ → Resolved → Type 0
IsAmong n (resolved.Function i) = i < n
IsAmong n (resolved.Host h) = Unit {0}
IsAmong n (resolved.Undefined cause) = Unit {0}

abbrev pub all_meant : List Symbol → List Scalar → List MeantValue
all_meant names [] = []
all_meant names (v ∷ vs) = meant names v ∷ all_meant names vs

abbrev pub AreValid : List Symbol → Memory → MeantMemory → List Scalar → Type 0
AreValid names m memory [] = Unit {0}
AreValid names m memory (v ∷ vs) = IsValid names m memory v × AreValid names m memory vs

-- the effect of `putchar`, by the byte that it writes
abbrev pub put_effect : MeantMemory → ℕ → Option ℕ → Effect
put_effect memory place (Some byte) = Went (Some (Number byte)) None memory place (Wrote byte ∷ [])
put_effect memory place None = Broke (fault.Undefined PoisonArgument)
