use Rattle.std.proofs.Common.{◌≡◌, ℕ, Option, Some, None, ap, subst, ◌∙◌, arith}
use Rattle.ir_interp.specs.Scenes.{GoesOn, Heard, with_result}
use Rattle.ir_interp.proofs.Acting.{stays_there}
use Rattle.ir_interp.proofs.Hearing.{asks, hears}
use Rattle.ir_interp.proofs.call.call_getchar.Goals as goal

pub returns-in-None-clause-ok : goal.returns-in-None-clause-ok
returns-in-None-clause-ok c = λ z code m choice l rest s next h. (c.in-None.is, asks z c.args.local rest h, stays_there z code m c.args.frame.now s)

pub returns-in_ok-bind_number-in-Some-Some-clause-ok : goal.returns-in_ok-bind_number-in-Some-Some-clause-ok
returns-in_ok-bind_number-in-Some-Some-clause-ok c = λ z code m choice l rest s next h.
    let byte = c.in-Some-Some.byte in
    let held : c.in-Some-Some.field-0 ≡ Some byte = rw c.in-Some-Some.is at c.in-Some-Some.field-0-is in
    let is : c.args.given ≡ Some (Some byte) = c.in-Some-Some.is ∙ ap (λ (o : Option ℕ). Some o) held in
    let same : c.from.result ≡ byte = omega (arith, c.from.ensures) in (
      Heard (Some byte),
      (
        z.memory,
        (
          with_result z.frame rest c.args.local byte,
          (
            is,
            hears z choice c.args.given c.args.local rest (Some byte) is h,
            subst (λ (n : ℕ). GoesOn z m m c.bind_number.new.frame z.memory (with_result z.frame rest c.args.local n)) same (c.in_ok-bind_number-in-Some-Some.ensures.ok z code m l rest s next),
          ),
        ),
      ),
    )

pub returns-in_ok-bind_number-in-Some-None-clause-ok : goal.returns-in_ok-bind_number-in-Some-None-clause-ok
returns-in_ok-bind_number-in-Some-None-clause-ok c = λ z code m choice l rest s next h.
    let held : c.in-Some-None.field-0 ≡ None = rw c.in-Some-None.is at c.in-Some-None.field-0-is in
    let is : c.args.given ≡ Some None = c.in-Some-None.is ∙ ap (λ (o : Option ℕ). Some o) held in (
      Heard None,
      (
        z.memory,
        (
          with_result z.frame rest c.args.local 4294967295,
          (
            is,
            hears z choice c.args.given c.args.local rest None is h,
            c.in_ok-bind_number-in-Some-None.ensures.ok z code m l rest s next,
          ),
        ),
      ),
    )
