use Rattle.std.proofs.Common.{◌≡◌, drop, option_map, IfSome}
use Rattle.ir_tree.specs.Layout.{IsLaidOut}
use Rattle.ir_meaning.specs.Table.{constant_indices}
use Rattle.fold_rules.specs.Walking.{offset_behind}
use Rattle.fold_rules.proofs.address.walked.Given as goal

abbrev pub invariant-loop-argument : goal.invariant-loop-argument
invariant-loop-argument l = record {
  laid : IfSome l.walk.inside (λ s. IsLaidOut s.now);
  sum : option_map (offset_behind l.walk) (constant_indices (drop l.argument-index l.indices)) ≡ option_map (offset_behind l.start) (constant_indices l.indices);
}
