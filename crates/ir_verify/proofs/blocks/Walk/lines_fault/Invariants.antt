use Rattle.std.proofs.Common.{◌+◌, length}
use Rattle.ir_verify.specs.Orders.{Went}
use Rattle.ir_verify.proofs.blocks.Walk.lines_fault.Given as goal

abbrev pub invariant-loop-line : goal.invariant-loop-line
invariant-loop-line l = Went l.self.function.now l.self.lines.now l.self.number (l.at + length l.block.phis) l.fn.found (l.at + length l.block.phis + l.line) l.best
