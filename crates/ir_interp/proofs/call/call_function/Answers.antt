use Rattle.std.proofs.Common.{◌≡◌, ◌+◌, List, Option, length, refl, sym, ap, subst, ◌∙◌, arith}
use Rattle.ir_meaning.specs.Execute.{Asked}
use Rattle.ir_meaning.specs.declared.value.Value.{Value as MeantValue}
use Rattle.ir_machine.specs.Meant.{symbol_at}
use Rattle.ir_machine.proofs.Holding.{on_err}
use Rattle.ir_interp.proofs.Reading.{same_locals}
use Rattle.ir_interp.specs.Calls.{all_meant}
use Rattle.ir_interp.specs.Frames.{IsOpened}
use Rattle.ir_interp.specs.Scenes.{Works}
use Rattle.ir_interp.specs.declared.frame.Frame.{Frame}
use Rattle.ir_interp.proofs.Acting.{stays_there, still_there}
use Rattle.ir_interp.proofs.Calling.{meant_long}
use Rattle.ir_interp.proofs.Leaving.{block_count}
use Rattle.ir_interp.proofs.Standing.{untouched}
use Rattle.ir_interp.proofs.Waiting.{call_entered, call_missing}
use Rattle.ir_interp.proofs.call.call_function.Goals as goal

pub returns-in_err-values-clause-err : goal.returns-in_err-values-clause-err
returns-in_err-values-clause-err c = on_err c.from_residual.result (λ z s. stays_there z c.args.code.now c.args.memory.now c.args.frame.now s)

pub returns-in_err-callee-clause-err : goal.returns-in_err-callee-clause-err
returns-in_err-callee-clause-err c = on_err c.from_residual-in_err-callee.result (λ z s. stays_there z c.args.code.now c.args.memory.now c.args.frame.now s)

pub returns-in_err-reserve_result-in-Some-clause-err : goal.returns-in_err-reserve_result-in-Some-clause-err
returns-in_err-reserve_result-in-Some-clause-err c =
    on_err c.from_residual-in_err-reserve_result-in-Some.result
    (λ z s.
    still_there z c.args.code.now c.args.memory.now c.args.memory.now c.args.frame.now c.reserve_result.new.self s
    (untouched z.names c.args.memory.now z.memory c.args.frame.now.registers c.reserve_result.new.self z.frame.locals c.reserve_result.ensures.same s.holds s.frame.reads) refl)

pub returns-in-Some-clause-ok : goal.returns-in-Some-clause-ok
returns-in-Some-clause-ok c = λ z choice given l rest s inside next known takes works.
    let f = c.args.frame.now in
    let m = c.args.memory.now in
    let i = c.args.index in
    let passed = c.in_ok-values.ensures z.names m z.memory z.frame.locals s.frame.reads known in
    let opened = c.in_ok-callee.ensures z.names z.program m z.memory s.code passed.1 in
    let is = subst (λ (o : Option Frame). IsOpened z.names z.program m z.memory i (all_meant z.names c.in_ok-values.values.items) c.len.result o) c.in-Some.is opened in
    let w = subst (λ (vs : List MeantValue). Works z choice given c.args.local rest (λ place. Asked (symbol_at z.names i) vs)) (sym passed.0) works in
    let a = same_locals z.names m z.memory f.registers c.reserve_result.new.self z.frame.locals c.reserve_result.ensures.same s.frame.reads in
    call_entered z c.args.code.now m choice given f c.in-Some.callee l rest c.args.local (f.line + 1) i c.len.result c.reserve_result.new.self (all_meant z.names c.in_ok-values.values.items) refl s next a c.in_ok-reserve_result-in-Some.ensures.room w is
    (omega (arith, c.len.ensures, block_count m))

pub returns-clause-ok : goal.returns-clause-ok
returns-clause-ok c = λ z choice given l rest s inside next known takes works.
    let f = c.args.frame.now in
    let m = c.args.memory.now in
    let i = c.args.index in
    let passed = c.in_ok-values.ensures z.names m z.memory z.frame.locals s.frame.reads known in
    let opened = c.in_ok-callee.ensures z.names z.program m z.memory s.code passed.1 in
    let is = subst (λ (o : Option Frame). IsOpened z.names z.program m z.memory i (all_meant z.names c.in_ok-values.values.items) c.len.result o) c.in-None.is opened in
    let w = subst (λ (vs : List MeantValue). Works z choice given c.args.local rest (λ place. Asked (symbol_at z.names i) vs)) (sym passed.0) works in
    let long : length (all_meant z.names c.in_ok-values.values.items) ≡ length c.args.passed.now = ap length passed.0 ∙ meant_long z.names z.frame.locals c.args.passed.now in (
      call_missing z c.args.code.now m choice given f rest c.args.local i c.len.result (length c.args.passed.now) (all_meant z.names c.in_ok-values.values.items) s inside takes long w is,
      record { function = refl; block = refl; line = refl; base = refl },
    )
