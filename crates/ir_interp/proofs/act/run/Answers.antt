use Rattle.std.proofs.Common.{◌+◌, refl, sym, subst}
use Rattle.ir_meaning.specs.Fault as fault
use Rattle.ir_interp.specs.Lines.{HasNumbers, IsReached}
use Rattle.ir_interp.specs.declared.line.Reached.{Reached}
use Rattle.ir_interp.specs.declared.line.Reached.TheVariants as reached
use Rattle.ir_interp.specs.declared.ran.Ran.{Ran}
use Rattle.ir_machine.proofs.Holding.{on_err}
use Rattle.ir_machine.specs.declared.memory.Memory.{Memory}
use Rattle.ir_interp.specs.declared.registers.Registers.{Registers}
use Rattle.ir_interp.specs.Scenes.{GoesOn, HasDone, IsNext, Plays}
use Rattle.ir_interp.proofs.Acting.{line_broke, line_went, still_there}
use Rattle.ir_interp.proofs.Telling.{then_err, then_ok}
use Rattle.ir_interp.proofs.act.run.Goals as goal

pub returns-in-Ran-Went-clause-ok : goal.returns-in-Ran-Went-clause-ok
returns-in-Ran-Went-clause-ok c = λ z l rest s next.
    let m = c.args.memory.now in
    let line = c.args.line.now in
    let came = subst (λ (r : Reached). IsReached z.names m z.memory z.frame.locals line c.args.choice c.run_line.new.memory c.run_line.new.registers r) c.in-Ran-Went.is
    (c.in_ok-run_line.ensures.ok z.names z.memory z.frame.locals s.distinct s.holds s.frame.reads next.known) in
    let ran = subst (λ (r : Ran). IsReached z.names m z.memory z.frame.locals line c.args.choice c.run_line.new.memory c.run_line.new.registers (reached.Ran r)) c.in-Ran-Went.field-0-is came in
    let numbers = subst (λ (r : Ran). HasNumbers m c.run_line.new.memory (reached.Ran r)) c.in-Ran-Went.field-0-is (subst (λ (r : Reached). HasNumbers m c.run_line.new.memory r) c.in-Ran-Went.is (c.in_ok-run_line.ensures.numbers z.names z.memory s.holds)) in
    line_went z c.args.code.now m c.run_line.new.memory c.args.choice c.args.given c.args.frame.now line l rest c.run_line.new.registers (c.args.frame.now.line + 1) c.in-Ran-Went.field-0-0 refl s next numbers ran

pub returns-in-Ran-Undefined-clause-ok : goal.returns-in-Ran-Undefined-clause-ok
returns-in-Ran-Undefined-clause-ok c = λ z l rest s next.
    let m = c.args.memory.now in
    let line = c.args.line.now in
    let came = subst (λ (r : Reached). IsReached z.names m z.memory z.frame.locals line c.args.choice c.run_line.new.memory c.run_line.new.registers r) c.in-Ran-Undefined.is
    (c.in_ok-run_line.ensures.ok z.names z.memory z.frame.locals s.distinct s.holds s.frame.reads next.known) in
    let ran = subst (λ (r : Ran). IsReached z.names m z.memory z.frame.locals line c.args.choice c.run_line.new.memory c.run_line.new.registers (reached.Ran r)) c.in-Ran-Undefined.field-0-is came in
    (rw c.in-Ran-Undefined.field-0-is (line_broke z m c.args.choice c.args.given line l rest (fault.Undefined c.in-Ran-Undefined.cause) next ran.0), record { function = refl; block = refl; line = refl; base = refl })

pub returns-in-Ran-Uninit-clause-ok : goal.returns-in-Ran-Uninit-clause-ok
returns-in-Ran-Uninit-clause-ok c = λ z l rest s next.
    let m = c.args.memory.now in
    let line = c.args.line.now in
    let came = subst (λ (r : Reached). IsReached z.names m z.memory z.frame.locals line c.args.choice c.run_line.new.memory c.run_line.new.registers r) c.in-Ran-Uninit.is
    (c.in_ok-run_line.ensures.ok z.names z.memory z.frame.locals s.distinct s.holds s.frame.reads next.known) in
    let ran = subst (λ (r : Ran). IsReached z.names m z.memory z.frame.locals line c.args.choice c.run_line.new.memory c.run_line.new.registers (reached.Ran r)) c.in-Ran-Uninit.field-0-is came in
    (line_broke z m c.args.choice c.args.given line l rest fault.Uninit next ran.0, record { function = refl; block = refl; line = refl; base = refl })

pub returns-in_err-run_line-clause-err : goal.returns-in_err-run_line-clause-err
returns-in_err-run_line-clause-err c =
    on_err c.from_residual.result
    (λ z l rest s next.
    still_there z c.args.code.now c.args.memory.now c.run_line.new.memory c.args.frame.now c.run_line.new.registers s
    (c.in_err-run_line.ensures.err z.names z.memory z.frame.locals s.holds s.frame.reads next.known) c.in_err-run_line.ensures.refused)

pub returns-in-Call-clause-ok : goal.returns-in-Call-clause-ok
returns-in-Call-clause-ok c = then_ok c.run_call.result c.run_call.ensures.ok (λ did done z l rest s next.
    let code = c.args.code.now in
    let m = c.args.memory.now in
    let m' = c.run_line.new.memory in
    let f = c.args.frame.now in
    let f' = c.run_call.new.frame in
    let line = c.args.line.now in
    let same = c.in_ok-run_line.ensures.called c.in-Call.is in
    let came = subst (λ (r : Reached). IsReached z.names m z.memory z.frame.locals line c.args.choice m' c.run_line.new.registers r) c.in-Call.is
    (c.in_ok-run_line.ensures.ok z.names z.memory z.frame.locals s.distinct s.holds s.frame.reads next.known) in
    let s' = subst (λ (r : Registers). Plays z code m' (record f { registers = r })) (sym same.1) (subst (λ (x : Memory). Plays z code x f) (sym same.0) s) in
    let next' = subst (λ (x : Memory). IsNext z x line l rest) (sym same.0) next in
    subst (λ (x : Memory). HasDone z c.args.choice c.args.given x m' f f' did) same.0
    (subst (λ (r : Registers). HasDone z c.args.choice c.args.given m' m' (record f { registers = r }) f' did) same.1 (done z c.args.choice l rest s' next' came.0)))

pub returns-in-Call-clause-err : goal.returns-in-Call-clause-err
returns-in-Call-clause-err c = then_err c.run_call.result c.run_call.ensures.err (λ done z l rest s next.
    let code = c.args.code.now in
    let f = c.args.frame.now in
    let m' = c.run_line.new.memory in
    let same = c.in_ok-run_line.ensures.called c.in-Call.is in
    let s' = subst (λ (r : Registers). Plays z code m' (record f { registers = r })) (sym same.1) (subst (λ (x : Memory). Plays z code x f) (sym same.0) s) in
    subst (λ (x : Memory). GoesOn z x m' c.run_call.new.frame z.memory z.frame) same.0 (done z s'))
