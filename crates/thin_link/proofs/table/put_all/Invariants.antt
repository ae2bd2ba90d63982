use Rattle.std.proofs.Common.{◌≡◌, ◌++◌, List, length, take}
use Rattle.thin_link.specs.Listed.{Listed, all_listed}
use Rattle.thin_link.specs.Rows.{IsTable}
use Rattle.thin_link.proofs.table.put_all.Given as goal

abbrev pub invariant-loop-definition : goal.invariant-loop-definition
invariant-loop-definition l = record {
  len : length l.table ≡ length l.fn.table;
  table : (before : List Listed) → IsTable l.fn.table before → IsTable l.table (before ++ all_listed l.symbols l.number (take l.definition-index l.definitions));
}
