-- What still holds when handles do.
use Rattle.std.proofs.Common.{◌≡◌, ◌⊎◌, inl, inr, List, subst}
use Rattle.ir_tree.specs.declared.operand.Symbol.{Symbol}
use Rattle.ir_meaning.specs.Frame.{Locals}
use Rattle.ir_meaning.specs.Memory.{Memory as MeantMemory}
use Rattle.ir_machine.specs.Memories.{GainsNone, GainsOnly, InMemory, IsBase, KeepsHandles, Stands}
use Rattle.ir_machine.specs.Names.{IsNamed}
use Rattle.ir_machine.specs.declared.memory.Memory.{Memory}
use Rattle.ir_machine.specs.declared.scalar.Base.{Base}
use Rattle.ir_machine.specs.declared.scalar.Base.TheVariants.{Block, Function, Null}
use Rattle.ir_machine.specs.declared.scalar.Pointer.{Pointer}
use Rattle.ir_machine.specs.declared.scalar.Scalar.{Scalar}
use Rattle.ir_machine.specs.declared.scalar.Scalar.TheVariants as scalar
use Rattle.ir_interp.specs.Locals.{AreLocals, IsMemory, IsValid, register_at}
use Rattle.ir_interp.specs.declared.registers.Registers.{Registers}

pub keep_base : (m : Memory) (memory : MeantMemory) (m' : Memory) (memory' : MeantMemory) (b : Base) → KeepsHandles m memory m' memory' → IsBase m memory b → IsBase m' memory' b
keep_base m memory m' memory' Null k h = tt
keep_base m memory m' memory' (Function i) k h = tt
keep_base m memory m' memory' (Block handle) k h = k handle h

pub keep_valid : (names : List Symbol) (m : Memory) (memory : MeantMemory) (m' : Memory) (memory' : MeantMemory) (v : Scalar) → KeepsHandles m memory m' memory' →
    IsValid names m memory v → IsValid names m' memory' v
keep_valid names m memory m' memory' (scalar.Number n) k h = (tt, tt)
keep_valid names m memory m' memory' (scalar.Pointer p) k h = (keep_base m memory m' memory' p.base k h.0, h.1)
keep_valid names m memory m' memory' scalar.Poison k h = (tt, tt)

pub keep_locals : (names : List Symbol) (m : Memory) (memory : MeantMemory) (m' : Memory) (memory' : MeantMemory) (r : Registers) (locals : Locals) → KeepsHandles m memory m' memory' →
    AreLocals names m memory r locals → AreLocals names m' memory' r locals
keep_locals names m memory m' memory' r locals k a = record {
  means = a.means;
  valid = λ x. keep_valid names m memory m' memory' (register_at r x) k (a.valid x);
}

pub keep_pointer : (names : List Symbol) (m : Memory) (memory : MeantMemory) (m' : Memory) (memory' : MeantMemory) → IsMemory names m memory → KeepsHandles m memory m' memory' →
    (p : Pointer) → InMemory m p → IsBase m' memory' p.base × IsNamed names p.base
keep_pointer names m memory m' memory' s k p h = let old = s.sound p h in (keep_base m memory m' memory' p.base k old.0, old.1)

-- memory that holds no pointers but those before
pub keep_memory : (names : List Symbol) (m : Memory) (memory : MeantMemory) (m' : Memory) (memory' : MeantMemory) → IsMemory names m memory → Stands names m' memory' →
    KeepsHandles m memory m' memory' → GainsNone m m' → IsMemory names m' memory'
keep_memory names m memory m' memory' s stands k g = record {
  stands = stands;
  sound = λ p h. keep_pointer names m memory m' memory' s k p (g p h);
}

-- memory that holds no pointers but those before and a valid one
pub store_memory : (names : List Symbol) (m : Memory) (memory : MeantMemory) (m' : Memory) (memory' : MeantMemory) (v : Scalar) → IsMemory names m memory → Stands names m' memory' →
    KeepsHandles m memory m' memory' → IsValid names m memory v → GainsOnly m v m' → IsMemory names m' memory'
store_memory names m memory m' memory' v s stands k valid g = record {
  stands = stands;
  sound = λ p h. by p (g p h);
} where
  by : (p : Pointer) → InMemory m p ⊎ (v ≡ scalar.Pointer p) → IsBase m' memory' p.base × IsNamed names p.base
  by p (inl h) = keep_pointer names m memory m' memory' s k p h
  by p (inr e) = keep_valid names m memory m' memory' (scalar.Pointer p) k (subst (λ (w : Scalar). IsValid names m memory w) e valid)
