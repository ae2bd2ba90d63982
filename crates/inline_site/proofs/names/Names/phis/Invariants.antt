use Rattle.std.proofs.Common.{◌≡◌, ◌++◌, drop, map}
use Rattle.inline_site.specs.Callers.{name_in, phi_by}
use Rattle.inline_site.proofs.names.Names.phis.Given as goal

abbrev pub invariant-loop-phi : goal.invariant-loop-phi
invariant-loop-phi l = l.rows ++ map (phi_by (name_in l.self)) (drop l.phi-index l.phis) ≡ map (phi_by (name_in l.self)) l.phis
