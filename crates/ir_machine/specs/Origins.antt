-- Where pointers come from: those that blocks hold, and those that loads give.
use Rattle.std.specs.Prelude.{◌≡◌, ℕ, ◌⊎◌, Some, nat_eq}
use Rattle.std.specs.HashMap as hash
use Rattle.ir_machine.specs.Bytes.{null}
use Rattle.ir_machine.specs.declared.bytes.Bytes.{Bytes}
use Rattle.ir_machine.specs.declared.outcome.Outcome.{Outcome}
use Rattle.ir_machine.specs.declared.outcome.Outcome.TheVariants.{Uninit, Undefined, Value as OfValue}
use Rattle.ir_machine.specs.declared.scalar.Pointer.{Pointer}
use Rattle.ir_machine.specs.declared.scalar.Scalar.{Scalar}
use Rattle.ir_machine.specs.declared.scalar.Scalar.TheVariants as scalar

-- bytes hold a pointer, whole or overwritten in part
abbrev pub Holds : Bytes → Pointer → Type 0
Holds b p = (place : ℕ) × (hash.get nat_eq b.pointers place ≡ Some p)

abbrev pub HoldsNone : Bytes → Type 0
HoldsNone b = (p : Pointer) → Holds b p → ⊥

-- a pointer that is loaded is null or one that the bytes hold
abbrev pub IsHeld : Bytes → Outcome → Type 0
IsHeld b (OfValue (scalar.Number n)) = Unit {0}
IsHeld b (OfValue (scalar.Pointer p)) = (p ≡ null) ⊎ Holds b p
IsHeld b (OfValue scalar.Poison) = Unit {0}
IsHeld b (Undefined cause) = Unit {0}
IsHeld b Uninit = Unit {0}

-- what bytes hold after a store, they held before, but for the value that was stored
abbrev pub HoldsNoMore : Bytes → Scalar → Bytes → Type 0
HoldsNoMore old value new = (p : Pointer) → Holds new p → Holds old p ⊎ (value ≡ scalar.Pointer p)
