use Rattle.std.proofs.Common.{◌≡◌, map, max, drop}
use Rattle.ir_tree.specs.Flow.{room}
use Rattle.slot_promote.proofs.numbers.above_params.Given as goal

abbrev pub invariant-loop-param : goal.invariant-loop-param
invariant-loop-param l = max l.next (room (map (λ p. p.local) (drop l.param-index l.params))) ≡ room (map (λ p. p.local) l.params)
