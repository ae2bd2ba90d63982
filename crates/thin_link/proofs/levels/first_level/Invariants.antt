use Rattle.std.proofs.Common.{[], take}
use Rattle.thin_link.specs.Chains.{is_importable}
use Rattle.thin_link.specs.Walking.{Grown, called}
use Rattle.thin_link.proofs.levels.first_level.Given as goal

abbrev pub invariant-loop-definition : goal.invariant-loop-definition
invariant-loop-definition l = Grown (is_importable l.index l.most) l.fn.seen [] (called l.live (take l.definition-index l.definitions)) l.seen l.level.items
