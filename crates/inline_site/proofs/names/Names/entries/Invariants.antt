use Rattle.std.proofs.Common.{◌≡◌, ◌++◌, drop, map}
use Rattle.inline_site.specs.Callers.{entry_by, name_in}
use Rattle.inline_site.proofs.names.Names.entries.Given as goal

abbrev pub invariant-loop-entry : goal.invariant-loop-entry
invariant-loop-entry l = l.rows ++ map (entry_by (name_in l.self)) (drop l.entry-index l.incoming) ≡ map (entry_by (name_in l.self)) l.incoming
