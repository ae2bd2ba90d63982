use Rattle.std.proofs.Common.{◌≡◌, ◌++◌, drop}
use Rattle.std.specs.Prelude.{flat_map}
use Rattle.ir_edit.proofs.uses.push_phis.Given as goal

abbrev pub invariant-loop-phi : goal.invariant-loop-phi
invariant-loop-phi g l = l.uses.items ++ flat_map g.U.FindUses.of_phi (drop l.phi-index l.phis) ≡ l.fn.uses.items ++ flat_map g.U.FindUses.of_phi l.phis
