use Rattle.std.proofs.Common.{drop}
use Rattle.std.specs.Prelude.{All}
use Rattle.back_end.specs.Walking.{LineTakesNone, bodies_in}
use Rattle.back_end.proofs.calls.lines_taken.Given as goal

abbrev pub invariant-loop-line : goal.invariant-loop-line
invariant-loop-line l = All (LineTakesNone (bodies_in l.bodies) l.symbol l.count) (drop l.line-index l.lines) → All (LineTakesNone (bodies_in l.bodies) l.symbol l.count) l.lines
