use Rattle.std.proofs.Common.{◌≡◌, map, max, drop}
use Rattle.ir_tree.specs.Flow.{room}
use Rattle.slot_promote.proofs.numbers.above_phis.Given as goal

abbrev pub invariant-loop-phi : goal.invariant-loop-phi
invariant-loop-phi l = max l.next (room (map (λ p. p.local) (drop l.phi-index l.phis))) ≡ room (map (λ p. p.local) l.phis)
