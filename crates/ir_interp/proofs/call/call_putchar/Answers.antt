use Rattle.std.proofs.Common.{◌≡◌, ℕ, List, Option, refl, sym, ap, subst, ◌∙◌, arith}
use Rattle.ir_meaning.specs.Execute.{Effect, puts_char}
use Rattle.ir_meaning.specs.Act.{apply}
use Rattle.ir_meaning.specs.Fault as fault
use Rattle.ir_meaning.specs.Memory.{Memory as MeantMemory}
use Rattle.ir_tree.specs.declared.cause.Cause.TheVariants.{PoisonArgument}
use Rattle.ir_meaning.specs.declared.value.Value.{Value as MeantValue}
use Rattle.ir_machine.proofs.Holding.{on_err}
use Rattle.ir_interp.specs.Calls.{all_meant, put_effect}
use Rattle.ir_interp.specs.Scenes.{GoesOn, with_result}
use Rattle.ir_interp.proofs.Acting.{stays_there, work_fails}
use Rattle.ir_interp.proofs.call.call_putchar.Goals as goal

pub returns-in_err-values-clause-err : goal.returns-in_err-values-clause-err
returns-in_err-values-clause-err c = on_err c.from_residual.result (λ z code m s. stays_there z code m c.args.frame.now s)

pub returns-in_err-bind_number-in-Some-clause-err : goal.returns-in_err-bind_number-in-Some-clause-err
returns-in_err-bind_number-in-Some-clause-err c = on_err c.from_residual-in_err-bind_number-in-Some.result (λ z code m s. c.in_err-bind_number-in-Some.ensures.err z code m s)

pub returns-in-Some-clause-ok : goal.returns-in-Some-clause-ok
returns-in-Some-clause-ok c = λ z code m choice given l rest s next known works.
    let passed = c.in_ok-values.ensures z.names m z.memory z.frame.locals s.frame.reads known in
    let put = λ (memory : MeantMemory) (place : ℕ).
    ap (λ (vs : List MeantValue). puts_char memory place vs) (sym passed.0 ∙ sym (ap (all_meant z.names) c.deref.ensures.value)) ∙ c.put_char.ensures z.names memory place ∙ ap (λ (o : Option ℕ). put_effect memory place o) c.in-Some.is in
    let same : c.from.result ≡ c.in-Some.byte = omega (arith, c.from.ensures) in (
      z.memory,
      (
        with_result z.frame rest c.args.local c.in-Some.byte,
        (
          λ input place has. works input place has ∙ ap (λ (e : Effect). apply (record z.frame { rest = rest }) c.args.local e) (put z.memory place),
          subst (λ (n : ℕ). GoesOn z m m c.bind_number.new.frame z.memory (with_result z.frame rest c.args.local n)) same (c.in_ok-bind_number-in-Some.ensures.ok z code m l rest s next),
        ),
      ),
    )

pub returns-clause-ok : goal.returns-clause-ok
returns-clause-ok c = λ z code m choice given l rest s next known works.
    let passed = c.in_ok-values.ensures z.names m z.memory z.frame.locals s.frame.reads known in
    let put = λ (place : ℕ).
    ap (λ (vs : List MeantValue). puts_char z.memory place vs) (sym passed.0 ∙ sym (ap (all_meant z.names) c.deref.ensures.value)) ∙ c.put_char.ensures z.names z.memory place ∙ ap (λ (o : Option ℕ). put_effect z.memory place o) c.in-None.is in (
      work_fails z choice given c.args.local rest (fault.Undefined PoisonArgument)
          (λ input place has. works input place has ∙ ap (λ (e : Effect). apply (record z.frame { rest = rest }) c.args.local e) (put place)),
      record { function = refl; block = refl; line = refl; base = refl },
    )
