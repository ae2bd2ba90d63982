use Rattle.std.proofs.Common.{◌+◌, refl}
use Rattle.ir_interp.proofs.Reading.{same_locals}
use Rattle.ir_machine.proofs.Holding.{on_err}
use Rattle.ir_interp.proofs.Acting.{still_there}
use Rattle.ir_interp.proofs.Standing.{untouched}
use Rattle.ir_interp.proofs.Waiting.{number_bound}
use Rattle.ir_interp.proofs.call.bind_number.Goals as goal

pub returns-clause-ok : goal.returns-clause-ok
returns-clause-ok c = λ z code m l rest s next.
    let f = c.args.frame.now in
    let a = same_locals z.names m z.memory f.registers c.reserve_result.new.self z.frame.locals c.reserve_result.ensures.same s.frame.reads in
    number_bound z code m f l rest c.args.local (f.line + 1) c.args.number c.bind.new.self refl s next (c.bind.ensures z.names m z.memory z.frame.locals a (tt, tt))

pub returns-in_err-reserve_result-clause-err : goal.returns-in_err-reserve_result-clause-err
returns-in_err-reserve_result-clause-err c =
    on_err c.from_residual.result
    (λ z code m s.
    still_there z code m m c.args.frame.now c.reserve_result.new.self s
    (untouched z.names m z.memory c.args.frame.now.registers c.reserve_result.new.self z.frame.locals c.reserve_result.ensures.same s.holds s.frame.reads) refl)
