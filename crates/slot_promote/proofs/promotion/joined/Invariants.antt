use Rattle.std.proofs.Common.{◌≡◌, ◌++◌, drop}
use Rattle.slot_promote.proofs.promotion.joined.Given as goal

abbrev pub invariant-loop-phi : goal.invariant-loop-phi
invariant-loop-phi l = l.rows ++ drop l.phi-index l.others ≡ l.fn.phis ++ l.others
