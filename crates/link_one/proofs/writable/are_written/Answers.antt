use Rattle.std.proofs.Common.{All, arith, subst, take_all}
use Rattle.std.proofs.lemmas.List.Elements.{All-more}
use Rattle.lto_task.specs.Units.{IsWritten}
use Rattle.link_one.proofs.writable.are_written.Goals as goal

pub loop-piece-preserved : goal.loop-piece-preserved
loop-piece-preserved c =
    All-more IsWritten c.args.pieces.now c.loop-piece.piece-index c.piece-item.result c.loop-piece-test.true c.loop-piece.invariant (subst IsWritten c.piece-item.is c.is_written.ensures)

pub returns : goal.returns
returns c = subst (All IsWritten) (take_all c.loop-piece.piece-index c.args.pieces.now (omega (arith, c.loop-piece-test.false))) c.loop-piece.invariant
