use Rattle.std.proofs.Common.{◌≡◌, drop}
use Rattle.ir_facts.specs.FactFlow.{phi_in}
use Rattle.ir_facts.proofs.flow.phi_in.Given as goal

abbrev pub invariant-loop-phi : goal.invariant-loop-phi
invariant-loop-phi l = phi_in l.local (drop l.phi-index l.phis) ≡ phi_in l.local l.phis
