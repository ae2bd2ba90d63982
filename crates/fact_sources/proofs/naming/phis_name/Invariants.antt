use Rattle.std.proofs.Common.{◌≡◌, drop}
use Rattle.fact_sources.specs.Naming.{phis_name}
use Rattle.fact_sources.proofs.naming.phis_name.Given as goal

abbrev pub invariant-loop-phi : goal.invariant-loop-phi
invariant-loop-phi g l = phis_name (g.L.Locals.members l.among) (drop l.phi-index l.phis) ≡ phis_name (g.L.Locals.members l.among) l.phis
