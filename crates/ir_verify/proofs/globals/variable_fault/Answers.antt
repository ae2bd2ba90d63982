use Rattle.std.proofs.Common.{get_or, arith}
use Rattle.ir_verify.proofs.Keys.{got_at}
use Rattle.ir_verify.proofs.Modules.{past_other}
use Rattle.ir_verify.proofs.globals.variable_fault.Goals as goal

pub returns : goal.returns
returns c k =
    past_other c.args.variable.now c.args.lines.now (get_or c.args.lines.now 0 0) k c.args.found c.noted.result (got_at c.args.lines.now 0 0 (omega (arith, c.requires)))
    (λ fit. let fits = c.in_ok-variable_fits.ensures.1 fit in absurd (cc (fits, c.if-branch.false))) c.noted.ensures
