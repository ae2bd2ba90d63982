use Rattle.std.proofs.Common.{◌+◌}
use Rattle.ir_verify.specs.Orders.{Went}
use Rattle.ir_verify.proofs.blocks.Walk.phis_fault.Given as goal

abbrev pub invariant-loop-phi : goal.invariant-loop-phi
invariant-loop-phi l = Went l.self.function.now l.self.lines.now l.self.number l.at l.fn.found (l.at + l.phi) l.best
