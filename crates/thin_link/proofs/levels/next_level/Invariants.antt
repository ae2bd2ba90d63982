use Rattle.std.proofs.Common.{[], take}
use Rattle.thin_link.specs.Chains.{is_importable}
use Rattle.thin_link.specs.Walking.{Grown, called_by}
use Rattle.thin_link.proofs.levels.next_level.Given as goal

abbrev pub invariant-loop-function : goal.invariant-loop-function
invariant-loop-function l = Grown (is_importable l.index l.most) l.fn.seen [] (called_by l.index (take l.function-index l.level)) l.seen l.next.items
