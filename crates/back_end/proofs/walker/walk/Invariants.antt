use Rattle.std.proofs.Common.{drop}
use Rattle.back_end.specs.Walking.{IsAhead, bodies_in}
use Rattle.back_end.proofs.walker.walk.Given as goal

abbrev pub invariant-loop-block : goal.invariant-loop-block
invariant-loop-block l = IsAhead (bodies_in l.bodies) l.f l.walker (drop l.block-index l.f.blocks)
