use Rattle.std.proofs.Common.{◌≡◌, ◌++◌, map, drop}
use Rattle.block_trim.specs.Merged.{entry_named}
use Rattle.block_trim.specs.Working.{name_in}
use Rattle.block_trim.proofs.names.Names.entries.Given as goal

abbrev pub invariant-loop-entry : goal.invariant-loop-entry
invariant-loop-entry l = l.rows ++ map (entry_named (name_in l.self)) (drop l.entry-index l.entries) ≡ map (entry_named (name_in l.self)) l.entries
