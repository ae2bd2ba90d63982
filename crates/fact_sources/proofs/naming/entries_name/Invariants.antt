use Rattle.std.proofs.Common.{◌≡◌, drop}
use Rattle.fact_sources.specs.Naming.{entries_name}
use Rattle.fact_sources.proofs.naming.entries_name.Given as goal

abbrev pub invariant-loop-entry : goal.invariant-loop-entry
invariant-loop-entry g l = entries_name (g.L.Locals.members l.among) (drop l.entry-index l.incoming) ≡ entries_name (g.L.Locals.members l.among) l.incoming
