-- A store over registers.
use Rattle.std.proofs.Common.{◌≡◌, ℕ, false, List, Option, Some, None, refl, sym, ap, subst, ◌∙◌}
use Rattle.ir_tree.specs.declared.operand.Reg.{Reg}
use Rattle.ir_tree.specs.declared.operand.Symbol.{Symbol}
use Rattle.ir_meaning.specs.Access.{store_cause}
use Rattle.ir_meaning.specs.Execute as meaning
use Rattle.ir_meaning.specs.Fault as fault
use Rattle.ir_meaning.specs.Frame.{Locals, bind}
use Rattle.ir_meaning.specs.Memory.{Memory as MeantMemory}
use Rattle.ir_tree.specs.declared.cause.Cause.{Cause}
use Rattle.ir_meaning.specs.declared.value.Value.{Value as MeantValue}
use Rattle.ir_machine.specs.Meant.{meant}
use Rattle.ir_machine.specs.Memories.{GainsOnly, IsMemoryStored}
use Rattle.ir_machine.specs.declared.block.Stored.TheVariants as stored
use Rattle.ir_machine.specs.declared.memory.Memory.{Memory}
use Rattle.ir_machine.specs.declared.scalar.Scalar.{Scalar}
use Rattle.ir_interp.specs.Locals.{AreLocals, IsMemory, IsValid}
use Rattle.ir_interp.specs.Ran.{IsRan}
use Rattle.ir_interp.specs.declared.registers.Registers.{Registers}
use Rattle.ir_interp.specs.declared.ran.Ran.TheVariants.{Undefined, Went}
use Rattle.ir_interp.proofs.SourcesKept.{keep_locals, store_memory}

-- no result binds nothing
bind_none : (local : Option ℕ) (locals : Locals) → bind local None locals ≡ locals
bind_none None locals = refl
bind_none (Some x) locals = refl

pub store_ran : (names : List Symbol) (m m' : Memory) (memory : MeantMemory) (r : Registers) (locals : Locals) (reg : Reg) (v : Scalar) (address : MeantValue) (local : Option ℕ) (align choice : ℕ) →
    IsMemory names m memory → AreLocals names m memory r locals → IsValid names m memory v → GainsOnly m v m' →
    IsMemoryStored names m memory reg (meant names v) address align m' stored.Done →
    IsRan names m memory locals local choice (meaning.ToStore reg (meant names v) address align) m' r (Went false)
store_ran names m m' memory r locals reg v address local align choice s a valid gains (after, did, stands, keeps) = record {
  value = None;
  after = after;
  effect = λ sig input place. ap (λ (o : Option MeantMemory). meaning.stores place (store_cause memory reg address) o) did;
  stand = record {
    holds = store_memory names m memory m' after v s stands keeps valid gains;
    reads = subst (λ (ls : Locals). AreLocals names m' after r ls) (sym (bind_none local locals)) (keep_locals names m memory m' after r locals keeps a);
    keeps = keeps;
  };
}

pub store_refused : (names : List Symbol) (m m' : Memory) (memory : MeantMemory) (r : Registers) (locals : Locals) (reg : Reg) (v : Scalar) (address : MeantValue) (local : Option ℕ) (align choice : ℕ) (cause : Cause) →
    IsMemory names m memory → AreLocals names m memory r locals → IsValid names m memory v → GainsOnly m v m' →
    IsMemoryStored names m memory reg (meant names v) address align m' (stored.Undefined cause) →
    IsRan names m memory locals local choice (meaning.ToStore reg (meant names v) address align) m' r (Undefined cause)
store_refused names m m' memory r locals reg v address local align choice cause s a valid gains (none, why, stands, keeps) = (
  λ sig input place.
      ap (λ (o : Option MeantMemory). meaning.stores place (store_cause memory reg address) o) none
      ∙ ap (λ (k : Cause). meaning.Broke (fault.Undefined k)) (sym why),
  record {
    holds = store_memory names m memory m' memory v s stands keeps valid gains;
    reads = keep_locals names m memory m' memory r locals keeps a;
    keeps = keeps;
  },
)
