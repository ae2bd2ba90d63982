-- Values that are no pointers.
use Rattle.std.proofs.Common.{◌≡◌, ℕ, Bool, true, false, if◌then◌else◌, ◌⊎◌, inl, inr, List, Option, Some, None, refl, sym, subst}
use Rattle.ir_tree.specs.declared.instr.BinaryOp.{BinaryOp}
use Rattle.ir_tree.specs.declared.instr.CastOp.{CastOp}
use Rattle.ir_tree.specs.declared.instr.Flags.{Flags}
use Rattle.ir_tree.specs.declared.instr.Predicate.{Predicate}
use Rattle.ir_tree.specs.declared.operand.Symbol.{Symbol}
use Rattle.ir_meaning.specs.Memory.{Memory as MeantMemory}
use Rattle.ir_meaning.specs.Operate.{Answer, Is, Never, Unwritten, binary_bits, cast_bits, compared_bits, division_bits, frozen_bits, number_or_poison, plain_bits}
use Rattle.ir_meaning.specs.Pointers.{chosen, compared_pointers, settled}
use Rattle.ir_meaning.specs.Arithmetic.{arithmetic, breaks, division_cause, is_division, may_break}
use Rattle.ir_meaning.specs.declared.value.Value.{Value as MeantValue}
use Rattle.ir_meaning.specs.declared.value.Value.TheVariants as value
use Rattle.ir_machine.specs.Meant.{answered, meant}
use Rattle.ir_machine.specs.declared.memory.Memory.{Memory}
use Rattle.ir_machine.specs.declared.outcome.Outcome.{Outcome}
use Rattle.ir_machine.specs.declared.outcome.Outcome.TheVariants as outcome
use Rattle.ir_machine.specs.declared.scalar.Scalar.{Scalar}
use Rattle.ir_machine.specs.declared.scalar.Scalar.TheVariants as scalar
use Rattle.ir_machine.specs.Bytes.{null}
use Rattle.ir_machine.specs.Memories.{InMemory, IsLoaded}
use Rattle.ir_machine.specs.declared.scalar.Pointer.{Pointer}
use Rattle.ir_interp.specs.Locals.{IsMemory, IsValid, IsValidOutcome}

abbrev IsPlain : MeantValue → Type 0
IsPlain (value.Number n) = Unit {0}
IsPlain (value.Pointer x o) = ⊥
IsPlain value.Poison = Unit {0}

abbrev IsPlainAnswer : Answer → Type 0
IsPlainAnswer (Is v) = IsPlain v
IsPlainAnswer (Never cause) = Unit {0}
IsPlainAnswer Unwritten = Unit {0}

-- what means no pointer is valid
pub plain_valid : (names : List Symbol) (m : Memory) (memory : MeantMemory) (v : Scalar) (w : MeantValue) → meant names v ≡ w → IsPlain w → IsValid names m memory v
plain_valid names m memory (scalar.Number n) w e p = (tt, tt)
plain_valid names m memory (scalar.Pointer q) w e p = absurd (subst IsPlain (sym e) p)
plain_valid names m memory scalar.Poison w e p = (tt, tt)

pub plain_outcome : (names : List Symbol) (m : Memory) (memory : MeantMemory) (o : Outcome) (a : Answer) → answered names o ≡ a → IsPlainAnswer a → IsValidOutcome names m memory o
plain_outcome names m memory (outcome.Value v) a e p =
    let plain : IsPlain (meant names v) = subst IsPlainAnswer (sym e) p in
    plain_valid names m memory v (meant names v) refl plain
plain_outcome names m memory (outcome.Undefined cause) a e p = tt
plain_outcome names m memory outcome.Uninit a e p = tt

plain_number : (o : Option ℕ) → IsPlain (number_or_poison o)
plain_number None = tt
plain_number (Some n) = tt

plain_plain : (op : BinaryOp) (f : Flags) (w : ℕ) (a b : Option ℕ) → IsPlain (plain_bits op f w a b)
plain_plain op f w None None = tt
plain_plain op f w None (Some b) = tt
plain_plain op f w (Some a) None = tt
plain_plain op f w (Some a) (Some b) = plain_number (arithmetic op f w a b)

plain_division : (op : BinaryOp) (f : Flags) (w : ℕ) (a b : Option ℕ) → IsPlainAnswer (division_bits op f w a b)
plain_division op f w None None = tt
plain_division op f w (Some a) None = tt
plain_division op f w None (Some b) = by (may_break op w b) where
  by : (v : Bool) → IsPlainAnswer (if v then Never (division_cause b) else Is value.Poison)
  by true = tt
  by false = tt
plain_division op f w (Some a) (Some b) = by (breaks op w a b) where
  by : (v : Bool) → IsPlainAnswer (if v then Never (division_cause b) else Is (number_or_poison (arithmetic op f w a b)))
  by true = tt
  by false = plain_number (arithmetic op f w a b)

pub plain_binary : (op : BinaryOp) (f : Flags) (w : ℕ) (a b : Option ℕ) → IsPlainAnswer (binary_bits op f w a b)
plain_binary op f w a b = by (is_division op) where
  by : (v : Bool) → IsPlainAnswer (if v then division_bits op f w a b else Is (plain_bits op f w a b))
  by true = plain_division op f w a b
  by false = plain_plain op f w a b

pub plain_compared : (p : Predicate) (w : ℕ) (a b : Option ℕ) → IsPlain (compared_bits p w a b)
plain_compared p w None None = tt
plain_compared p w None (Some b) = tt
plain_compared p w (Some a) None = tt
plain_compared p w (Some a) (Some b) = tt

pub plain_cast : (op : CastOp) (from to : ℕ) (a : Option ℕ) → IsPlain (cast_bits op from to a)
plain_cast op from to None = tt
plain_cast op from to (Some a) = tt

pub plain_frozen : (w choice : ℕ) (a : Option ℕ) → IsPlain (frozen_bits w choice a)
plain_frozen w choice None = tt
plain_frozen w choice (Some n) = tt

plain_chosen : (o : Option Bool) (choice : ℕ) → IsPlain (chosen o choice)
plain_chosen None choice = tt
plain_chosen (Some b) choice = tt

pub plain_pointers : (memory : MeantMemory) (p : Predicate) (v u : MeantValue) (choice : ℕ) → IsPlain (compared_pointers memory p v u choice)
plain_pointers memory p (value.Number n) u choice = tt
plain_pointers memory p value.Poison u choice = tt
plain_pointers memory p (value.Pointer x i) (value.Number n) choice = tt
plain_pointers memory p (value.Pointer x i) value.Poison choice = tt
plain_pointers memory p (value.Pointer x i) (value.Pointer y j) choice = plain_chosen (settled memory p x i y j) choice

-- a value that is loaded is valid
pub loaded_valid : (names : List Symbol) (m : Memory) (memory : MeantMemory) (o : Outcome) → IsMemory names m memory → IsLoaded m o → IsValidOutcome names m memory o
loaded_valid names m memory (outcome.Value (scalar.Number n)) s h = (tt, tt)
loaded_valid names m memory (outcome.Value (scalar.Pointer p)) s h = by h where
  by : (p ≡ null) ⊎ InMemory m p → IsValid names m memory (scalar.Pointer p)
  by (inl e) = subst (λ (q : Pointer). IsValid names m memory (scalar.Pointer q)) (sym e) (tt, tt)
  by (inr k) = s.sound p k
loaded_valid names m memory (outcome.Value scalar.Poison) s h = (tt, tt)
loaded_valid names m memory (outcome.Undefined cause) s h = tt
loaded_valid names m memory outcome.Uninit s h = tt
