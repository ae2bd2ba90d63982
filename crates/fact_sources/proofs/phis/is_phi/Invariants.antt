use Rattle.std.proofs.Common.{◌≡◌, drop}
use Rattle.ir_meaning.specs.Facts.{is_phi}
use Rattle.fact_sources.proofs.phis.is_phi.Given as goal

abbrev pub invariant-loop-phi : goal.invariant-loop-phi
invariant-loop-phi l = is_phi l.local (drop l.phi-index l.phis) ≡ is_phi l.local l.phis
