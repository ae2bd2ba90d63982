use Rattle.std.proofs.Common.{◌≡◌, ◌++◌, List, drop, map}
use Rattle.combined_index.specs.Entries.{Entry, combined, entries_from}
use Rattle.combined_index.specs.Numbered.{NumbersModules, symbols}
use Rattle.combined_index.proofs.combining.modules_of.Given as goal

abbrev pub invariant-loop-module : goal.invariant-loop-module
invariant-loop-module l =
    (done : List (List Entry))
    × (done ++ entries_from l.resolution l.number (map (λ m. m.items) (drop l.module-index l.summaries)) ≡ combined l.resolution (map (λ m. m.items) l.summaries))
    × NumbersModules (symbols l.fn.table.keys) done (symbols l.table.keys) l.modules.items
