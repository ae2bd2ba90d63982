use Rattle.std.proofs.Common.{filter, map, take}
use Rattle.combined_index.specs.Entries.{entry_of}
use Rattle.ir_tree.specs.Linkages.{defines}
use Rattle.combined_index.specs.Numbered.{NumbersEntries, is_kept, symbols}
use Rattle.combined_index.proofs.numbering.scoped_definitions.Given as goal

abbrev pub invariant-loop-summary : goal.invariant-loop-summary
invariant-loop-summary l =
    NumbersEntries (symbols l.fn.table.keys) (map (entry_of l.resolution l.scope.number (is_kept l.scope.own.keys)) (filter (λ s. defines s.linkage) (take l.summary-index l.summaries))) (symbols l.table.keys) l.rows
