use Rattle.std.proofs.Common.{reverse, arith}
use Rattle.ir_parse_parts.specs.Readers.{Fails}
use Rattle.ir_parse_globals.specs.InitialisersAt.{begun_at}
use Rattle.ir_parse_globals.proofs.initialisers.begun_at.Goals as goal

pub returns-in_err-begun : goal.returns-in_err-begun
returns-in_err-begun c =
    let f : Fails c.in_err-begun.field-0.0 (begun_at c.args.first (reverse c.args.around.now.items) c.args.tokens.now) = c.in_err-begun.ensures (reverse c.args.around.now.items) in
    grind (arith, f)

pub returns : goal.returns
returns c =
    let e = c.in_ok-begun.ensures (reverse c.args.around.now.items) in
    grind (arith, e)
