use Rattle.std.proofs.Common.{◌≡◌, drop}
use Rattle.fact_sources.specs.Naming.{lines_name}
use Rattle.fact_sources.proofs.naming.lines_name.Given as goal

abbrev pub invariant-loop-line : goal.invariant-loop-line
invariant-loop-line g l = lines_name (g.L.Locals.members l.among) (drop l.line-index l.lines) ≡ lines_name (g.L.Locals.members l.among) l.lines
