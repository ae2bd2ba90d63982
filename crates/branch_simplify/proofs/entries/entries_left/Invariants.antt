use Rattle.std.proofs.Common.{◌≡◌, ◌++◌, ℕ, drop}
use Rattle.ir_meaning.specs.Counted.{sources, times}
use Rattle.branch_simplify.specs.Simplified.{entries_left}
use Rattle.branch_simplify.specs.Tables.{count_of}
use Rattle.branch_simplify.proofs.entries.entries_left.Given as goal

abbrev pub invariant-loop-entry : goal.invariant-loop-entry
invariant-loop-entry l = record {
  behind : (n : ℕ) → count_of l.behind n ≡ times n (sources (drop l.entry-index l.entries));
  rows : l.rows ++ entries_left (count_of l.lost) (drop l.entry-index l.entries) ≡ entries_left (count_of l.lost) l.entries;
}
