use Rattle.std.proofs.Common.{take}
use Rattle.thin_link.specs.Chains.{is_importable}
use Rattle.thin_link.specs.Walking.{Grown}
use Rattle.thin_link.proofs.reach.reach_all.Given as goal

abbrev pub invariant-loop-function : goal.invariant-loop-function
invariant-loop-function l = Grown (is_importable l.index l.most) l.initial.seen l.initial.level.items (take l.function-index l.functions) l.seen l.level.items
