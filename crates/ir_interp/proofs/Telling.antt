-- A run that is over is told again; one that isn't goes on.
use Rattle.std.proofs.Common.{◌≡◌, ℕ, List, Option, Some, None, Result, Ok, Err, IfOk, OnErr, sym, subst, ◌∙◌}
use Rattle.ir_tree.specs.declared.operand.Symbol.{Symbol}
use Rattle.ir_meaning.specs.Program.{Broken, Done, Next, On, Program, State}
use Rattle.ir_interp.specs.Steps.{IsAt, IsEnd, IsRunning, IsStep, IsStepped}
use Rattle.ir_interp.specs.declared.step_end.StepEnd.{StepEnd}
use Rattle.ir_interp.specs.declared.machine.Machine.{Machine}

pub told : (names : List Symbol) (p : Program) (m : Machine) (next : Next) (choice : ℕ) (given : Option (Option ℕ)) (end : StepEnd) → m.ended ≡ Some end → IsAt names p m next → IsStepped names p next choice given m end
told names p m (On s) choice given end is at = absurd (cc (sym at.running ∙ is))
told names p m (Done answer memory place) choice given end is (other, (there, e)) =
    let same : other ≡ end = cc (sym there ∙ is) in
    (subst (λ (x : StepEnd). IsEnd names x (Done answer memory place)) same e, (other, (there, e)))
told names p m (Broken failure) choice given end is (other, (there, e)) =
    let same : other ≡ end = cc (sym there ∙ is) in
    (subst (λ (x : StepEnd). IsEnd names x (Broken failure)) same e, (other, (there, e)))

pub not_over : {E : Type 0} (m m' : Machine) (choice : ℕ) (given : Option (Option ℕ)) (result : Result StepEnd E) → m.ended ≡ None →
    IfOk result (λ end. (names : List Symbol) (p : Program) (s : State) → IsRunning names p m s → IsStep names p s choice given m' end) →
    IfOk result (λ end. (names : List Symbol) (p : Program) (next : Next) → IsAt names p m next → IsStepped names p next choice given m' end)
not_over m m' choice given (Err e) is h = tt
not_over m m' choice given (Ok end) is h = λ names p next at. by names p next at where
  by : (names : List Symbol) (p : Program) (next : Next) → IsAt names p m next → IsStepped names p next choice given m' end
  by names p (On s) at = h names p s at
  by names p (Done answer memory place) (other, (there, e)) = absurd (cc (sym is ∙ there))
  by names p (Broken failure) (other, (there, e)) = absurd (cc (sym is ∙ there))

pub still_at : {T E : Type 0} (m m' : Machine) (result : Result T E) → m.ended ≡ None → OnErr result ((names : List Symbol) (p : Program) (s : State) → IsRunning names p m s → IsRunning names p m' s) →
    OnErr result ((names : List Symbol) (p : Program) (next : Next) → IsAt names p m next → IsAt names p m' next)
still_at m m' (Ok end) is h = tt
still_at m m' (Err e) is h = λ names p next at. by names p next at where
  by : (names : List Symbol) (p : Program) (next : Next) → IsAt names p m next → IsAt names p m' next
  by names p (On s) at = h names p s at
  by names p (Done answer memory place) (other, (there, e')) = absurd (cc (sym is ∙ there))
  by names p (Broken failure) (other, (there, e')) = absurd (cc (sym is ∙ there))

pub then_ok : {T E : Type 0} {P Q : T → Type 0} (r : Result T E) → IfOk r P → ((x : T) → P x → Q x) → IfOk r Q
then_ok (Ok x) h f = f x h
then_ok (Err e) h f = tt

pub then_err : {T E P Q : Type 0} (r : Result T E) → OnErr r P → (P → Q) → OnErr r Q
then_err (Ok x) h f = tt
then_err (Err e) h f = f h
