use Rattle.std.proofs.Common.{map, take}
use Rattle.combined_index.specs.Entries.{symbol_of}
use Rattle.combined_index.specs.Numbered.{NumbersSymbols, is_kept, symbols}
use Rattle.combined_index.proofs.numbering.numbers_of.Given as goal

abbrev pub invariant-loop-name : goal.invariant-loop-name
invariant-loop-name l = NumbersSymbols (symbols l.fn.table.keys) (map (symbol_of l.scope.number (is_kept l.scope.own.keys)) (take l.name-index l.names)) (symbols l.table.keys) l.rows
