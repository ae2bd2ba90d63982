use Rattle.std.proofs.Common.{◌≡◌, length, take}
use Rattle.thin_link.specs.Listed.{listed_from}
use Rattle.thin_link.specs.Rows.{IsTable}
use Rattle.thin_link.proofs.table.prevailing.Given as goal

abbrev pub invariant-loop-number : goal.invariant-loop-number
invariant-loop-number l = record {
  len : length l.table.items ≡ length l.index.symbols;
  table : IsTable l.table.items (listed_from l.index.symbols 0 (take l.number l.index.modules));
}
