use Rattle.std.proofs.Common.{◌≡◌, ◌++◌, drop}
use Rattle.ir_facts.specs.Candidates.{phi_candidates}
use Rattle.ir_facts.proofs.sources.push_phis_among.Given as goal

abbrev pub invariant-loop-phi : goal.invariant-loop-phi
invariant-loop-phi g l = record {
  found : l.found.items ++ phi_candidates l.phis (drop l.phi-index l.phis) ≡ l.initial.found.items ++ phi_candidates l.phis l.phis;
}
