use Rattle.std.proofs.Common.{◌≡◌, max, drop}
use Rattle.ir_tree.specs.Flow.{room}
use Rattle.ir_edit.specs.Numbered.{phi_numbers}
use Rattle.inline_site.proofs.free.past_phis.Given as goal

abbrev pub invariant-loop-phi : goal.invariant-loop-phi
invariant-loop-phi l = max l.free (room (phi_numbers (drop l.phi-index l.phis))) ≡ max l.initial.free (room (phi_numbers l.phis))
