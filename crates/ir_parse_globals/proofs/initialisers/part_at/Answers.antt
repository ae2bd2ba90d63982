use Rattle.std.proofs.Common.{arith}
use Rattle.ir_parse_parts.specs.Readers.{Fails}
use Rattle.ir_parse_globals.specs.InitialisersAt.{begun_at}
use Rattle.ir_parse_globals.proofs.BegunParts.{begun_is, shape_fails, beginning_fails}
use Rattle.ir_parse_globals.proofs.initialisers.part_at.Goals as goal

pub returns-in_err-typed : goal.returns-in_err-typed
returns-in_err-typed c = λ outer.
    let f : Fails c.in_err-typed.field-0.0 (begun_at c.args.first outer c.args.tokens.now) = shape_fails c.args.first outer _ _ c.in_err-typed.ensures.exact in
    grind (arith, f)

pub returns-in_err-head : goal.returns-in_err-head
returns-in_err-head c = λ outer.
    let f : Fails c.in_err-head.field-0.0 (begun_at c.args.first outer c.args.tokens.now) = beginning_fails c.args.first outer _ _ _ _ _ c.in_ok-typed.ensures.exact c.scalar_of.ensures c.in_err-head.ensures in
    grind (arith, f)

pub returns : goal.returns
returns c = λ outer.
    let e = begun_is c.args.first outer _ _ _ _ _ _ c.in_ok-typed.ensures.exact c.scalar_of.ensures c.in_ok-head.ensures in
    grind (arith, e)
