use Rattle.std.proofs.Common.{◌+◌, ◌≤◌, length, get_or, arith}
use Rattle.branch_simplify.proofs.Loops.{count_fits}
use Rattle.branch_simplify.specs.Tables.{count_of}
use Rattle.branch_simplify.proofs.counts.Counts.of.Goals as goal

pub overflow_add-count : goal.overflow_add-count
overflow_add-count c =
    let less : count_of c.loop-number.counts (get_or c.args.numbers.now c.loop-number.number-index 0) + 1 ≤ length c.args.numbers.now =
    count_fits c.args.numbers.now c.loop-number.number-index (count_of c.loop-number.counts (get_or c.args.numbers.now c.loop-number.number-index 0)) c.loop-number-test.true
    (c.loop-number.invariant (get_or c.args.numbers.now c.loop-number.number-index 0)) in
    let is = c.at-count.ensures in
    omega arith
