use Rattle.std.proofs.Common.{◌≡◌, drop}
use Rattle.fact_sources.specs.Naming.{arguments_name}
use Rattle.fact_sources.proofs.naming.arguments_name.Given as goal

abbrev pub invariant-loop-argument : goal.invariant-loop-argument
invariant-loop-argument g l = arguments_name (g.L.Locals.members l.among) (drop l.argument-index l.arguments) ≡ arguments_name (g.L.Locals.members l.among) l.arguments
