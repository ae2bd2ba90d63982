use Rattle.std.proofs.Common.{◌≡◌, ◌+◌, ℕ, drop}
use Rattle.ir_meaning.specs.Counted.{times}
use Rattle.branch_simplify.specs.Tables.{count_of}
use Rattle.branch_simplify.proofs.counts.Counts.of.Given as goal

abbrev pub invariant-loop-number : goal.invariant-loop-number
invariant-loop-number l = (n : ℕ) → count_of l.counts n + times n (drop l.number-index l.numbers) ≡ times n l.numbers
