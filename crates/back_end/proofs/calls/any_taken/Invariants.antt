use Rattle.std.proofs.Common.{drop}
use Rattle.std.specs.Prelude.{All}
use Rattle.back_end.specs.Walking.{LinesTakeNone, bodies_in}
use Rattle.back_end.proofs.calls.any_taken.Given as goal

abbrev pub invariant-loop-block : goal.invariant-loop-block
invariant-loop-block l = All (LinesTakeNone (bodies_in l.bodies) l.symbol l.count) (drop l.block-index l.blocks) → All (LinesTakeNone (bodies_in l.bodies) l.symbol l.count) l.blocks
