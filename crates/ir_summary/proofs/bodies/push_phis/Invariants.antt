use Rattle.std.proofs.Common.{◌≡◌, ◌++◌, drop}
use Rattle.ir_summary.specs.Once.{texts}
use Rattle.ir_summary.specs.Walked.{phis_names}
use Rattle.ir_summary.proofs.bodies.push_phis.Given as goal

abbrev pub invariant-loop-phi : goal.invariant-loop-phi
invariant-loop-phi l = texts l.names.items ++ phis_names (drop l.phi-index l.phis) ≡ texts l.fn.names.items ++ phis_names l.phis
