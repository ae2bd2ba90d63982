use Rattle.std.proofs.Common.{◌≡◌, List, drop}
use Rattle.ir_tree.specs.declared.block.Block.{Block}
use Rattle.ir_tree.specs.declared.block.Terminator.{Terminator}
use Rattle.ir_tree.specs.declared.function.Function.{Function}
use Rattle.back_end.specs.Walking.{IsBegun, bodies_in}
use Rattle.back_end.proofs.walker.Walker.pass_lines.Given as goal

abbrev pub invariant-loop-line : goal.invariant-loop-line
invariant-loop-line l =
    (f : Function) (end : Terminator) (ahead : List Block) → f.symbol ≡ l.symbol → IsBegun (bodies_in l.bodies) f l.fn.self l.fn.block l.lines end ahead → IsBegun (bodies_in l.bodies) f l.self l.block (drop l.line-index l.lines) end ahead
