-- What tasks give, against the definition's effects.
use Rattle.std.proofs.Common.{◌≡◌, ℕ, List, sym, ap, subst, ◌∙◌}
use Rattle.ir_tree.specs.declared.operand.Symbol.{Symbol}
use Rattle.ir_meaning.specs.Execute as meaning
use Rattle.ir_meaning.specs.Frame.{Locals, Signature}
use Rattle.ir_meaning.specs.Memory.{Memory as MeantMemory}
use Rattle.ir_meaning.specs.Operate.{Answer, Is}
use Rattle.ir_meaning.specs.declared.value.Value.{Value as MeantValue}
use Rattle.ir_machine.specs.Meant.{answered, meant}
use Rattle.ir_machine.specs.declared.memory.Memory.{Memory}
use Rattle.ir_machine.specs.declared.outcome.Outcome.{Outcome}
use Rattle.ir_machine.specs.declared.outcome.Outcome.TheVariants as outcome
use Rattle.ir_machine.specs.declared.scalar.Scalar.{Scalar}
use Rattle.ir_interp.specs.Locals.{IsValid, IsValidOutcome}
use Rattle.ir_interp.specs.Tasks.{IsPerformed, compute_meant}
use Rattle.ir_interp.specs.declared.task.Compute.{Compute}

-- a task that is this one
pub as_this : (names : List Symbol) (m : Memory) (memory : MeantMemory) (locals : Locals) (choice : ℕ) (t u : Compute) (o : Outcome) → t ≡ u →
    IsPerformed names m memory choice (compute_meant names locals u) o → IsPerformed names m memory choice (compute_meant names locals t) o
as_this names m memory locals choice t u o e h = subst (λ (x : Compute). IsPerformed names m memory choice (compute_meant names locals x) o) (sym e) h

pub answer_given : (names : List Symbol) (m : Memory) (memory : MeantMemory) (choice : ℕ) (t : meaning.Task) (a : Answer) (o : Outcome) →
    ((sig : Signature) (input : List ℕ) (place : ℕ) → meaning.execute sig input memory place choice t ≡ meaning.gives memory place a) → answered names o ≡ a → IsValidOutcome names m memory o →
    IsPerformed names m memory choice t o
answer_given names m memory choice t a o h e valid = (λ sig input place. h sig input place ∙ ap (λ (x : Answer). meaning.gives memory place x) (sym e), valid)

pub value_given : (names : List Symbol) (m : Memory) (memory : MeantMemory) (choice : ℕ) (t : meaning.Task) (w : MeantValue) (v : Scalar) →
    ((sig : Signature) (input : List ℕ) (place : ℕ) → meaning.execute sig input memory place choice t ≡ meaning.gives memory place (Is w)) → meant names v ≡ w → IsValid names m memory v →
    IsPerformed names m memory choice t (outcome.Value v)
value_given names m memory choice t w v h e valid = (λ sig input place. h sig input place ∙ ap (λ (x : MeantValue). meaning.gives memory place (Is x)) (sym e), valid)
