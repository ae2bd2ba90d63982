use Rattle.std.proofs.Common.{take}
use Rattle.combined_index.specs.Walking.{Grown}
use Rattle.combined_index.proofs.walk.Walk.reach_all.Given as goal

abbrev pub invariant-loop-number : goal.invariant-loop-number
invariant-loop-number l = Grown l.initial.self.reached l.initial.self.waiting.items (take l.number-index l.numbers) l.self.reached l.self.waiting.items
