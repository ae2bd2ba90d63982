use Rattle.std.proofs.Common.{◌≡◌, ◌≤◌, ℕ, List, drop, length}
use Rattle.importer.specs.Brought.{value_named}
use Rattle.importer.specs.Tables.{value_in, values}
use Rattle.importer.proofs.table.noted.Given as goal

abbrev pub invariant-loop-place : goal.invariant-loop-place
invariant-loop-place l = record {
  within : l.place ≤ length l.all;
  finds : (name : List ℕ) → value_in l.table name ≡ value_named (values (drop l.place l.all)) name;
}

abbrev pub decreases-loop-place : goal.decreases-loop-place
decreases-loop-place l = l.place
