-- Sources that are read, and locals that registers stand for.
use Rattle.std.proofs.Common.{◌≡◌, ℕ, Bool, true, false, nat_eq, if◌then◌else◌, List, ◌∷◌, refl, sym, ap, subst, ◌∙◌}
use Rattle.ir_tree.specs.declared.operand.Symbol.{Symbol}
use Rattle.ir_meaning.specs.Frame.{Locals, look_up}
use Rattle.ir_meaning.specs.Memory.{Memory as MeantMemory}
use Rattle.ir_meaning.specs.declared.value.Value.{Value as MeantValue}
use Rattle.ir_machine.specs.Meant.{meant}
use Rattle.ir_machine.specs.declared.memory.Memory.{Memory}
use Rattle.ir_machine.specs.declared.scalar.Scalar.{Scalar}
use Rattle.ir_interp.specs.Locals.{AreLocals, IsKnown, IsValid, Evaluates, register_at}
use Rattle.ir_interp.specs.declared.registers.Registers.{Registers}
use Rattle.ir_interp.specs.declared.source.Source.{Source}
use Rattle.ir_interp.specs.declared.source.Source.TheVariants.{Known, Register}

pub reads_register : (names : List Symbol) (m : Memory) (memory : MeantMemory) (r : Registers) (locals : Locals) (s : Source) (x : ℕ) (v : Scalar) →
    s ≡ Register x → v ≡ register_at r x → AreLocals names m memory r locals → Evaluates names m memory locals s v
reads_register names m memory r locals s x v e f a =
    subst (λ (t : Source). Evaluates names m memory locals t v) (sym e)
    (subst (λ (w : Scalar). Evaluates names m memory locals (Register x) w) (sym f) (a.means x, a.valid x))

pub reads_known : (names : List Symbol) (m : Memory) (memory : MeantMemory) (locals : Locals) (s : Source) (v : Scalar) →
    s ≡ Known v → IsKnown names m memory s → Evaluates names m memory locals s v
reads_known names m memory locals s v e k =
    let valid : IsValid names m memory v = subst (λ (t : Source). IsKnown names m memory t) e k in
    subst (λ (t : Source). Evaluates names m memory locals t v) (sym e) (refl, valid)

-- registers that read the same stand for the same
pub same_locals : (names : List Symbol) (m : Memory) (memory : MeantMemory) (r r' : Registers) (locals : Locals) → ((x : ℕ) → register_at r' x ≡ register_at r x) →
    AreLocals names m memory r locals → AreLocals names m memory r' locals
same_locals names m memory r r' locals same a = record {
  means = λ x. ap (meant names) (same x) ∙ a.means x;
  valid = λ x. subst (λ (v : Scalar). IsValid names m memory v) (sym (same x)) (a.valid x);
}

-- a register that is written is a local with a new value
pub bound_locals : (names : List Symbol) (m : Memory) (memory : MeantMemory) (r r' : Registers) (locals : Locals) (k : ℕ) (v : Scalar) (w : MeantValue) →
    ((x : ℕ) → register_at r' x ≡ (if nat_eq k x then v else register_at r x)) → meant names v ≡ w → IsValid names m memory v →
    AreLocals names m memory r locals → AreLocals names m memory r' ((k, w) ∷ locals)
bound_locals names m memory r r' locals k v w written e valid a = record {
  means = λ x. ap (meant names) (written x) ∙ means x (nat_eq k x);
  valid = λ x. subst (λ (u : Scalar). IsValid names m memory u) (sym (written x)) (each x (nat_eq k x));
}
  where
    means : (x : ℕ) (b : Bool) → meant names (if b then v else register_at r x) ≡ (if b then w else look_up locals x)
    means x true = e
    means x false = a.means x

    each : (x : ℕ) (b : Bool) → IsValid names m memory (if b then v else register_at r x)
    each x true = valid
    each x false = a.valid x
