use Rattle.std.proofs.Common.{◌≡◌, ◌++◌, drop}
use Rattle.ir_edit.specs.Numbered.{phi_numbers}
use Rattle.fact_sources.proofs.unreached.push_phis.Given as goal

abbrev pub invariant-loop-phi : goal.invariant-loop-phi
invariant-loop-phi l = l.locals.items ++ phi_numbers (drop l.phi-index l.phis) ≡ l.initial.locals.items ++ phi_numbers l.phis
