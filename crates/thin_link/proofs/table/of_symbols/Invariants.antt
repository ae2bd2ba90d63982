use Rattle.std.proofs.Common.{◌≡◌, List, take}
use Rattle.thin_link.specs.Listed.{Listed, all_first}
use Rattle.thin_link.specs.Rows.{IsTable, all_shown}
use Rattle.thin_link.proofs.table.of_symbols.Given as goal

abbrev pub invariant-loop-symbol : goal.invariant-loop-symbol
invariant-loop-symbol l = (before : List Listed) → IsTable l.table before → all_shown l.rows.items ≡ all_first before (take l.symbol-index l.symbols)
