use Rattle.ir_verify.specs.Orders.{Went}
use Rattle.ir_verify.proofs.Stood.{Onward}
use Rattle.ir_verify.proofs.blocks.function_fault.Given as goal

abbrev pub invariant-loop-place : goal.invariant-loop-place
invariant-loop-place l = record {
  onward : Onward l.function l.place l.at;
  went : Went l.function l.lines l.number 0 l.fn.found l.at l.best;
}
