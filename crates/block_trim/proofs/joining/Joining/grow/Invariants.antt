use Rattle.std.proofs.Common.{◌≡◌, ◌≢◌, ℕ, None}
use Rattle.std.specs.HashMap.{hash_map_len}
use Rattle.ir_tree.specs.Formed.{Distinct, numbers}
use Rattle.ir_tree.specs.declared.function.Function.{Function}
use Rattle.block_trim.specs.Working.{IsTurnOf, Joined, next}
use Rattle.block_trim.proofs.joining.Joining.grow.Given as goal

abbrev pub invariant-loop-second : goal.invariant-loop-second
invariant-loop-second l = record {
  joined : (f : Function) → Distinct (numbers f) → IsTurnOf f l.fn.self l.number → Joined f l.fn.self → Joined f l.self;
  others : (n : ℕ) → n ≢ l.number → next l.fn.self n ≡ None → next l.self n ≡ None;
}

abbrev pub decreases-loop-second : goal.decreases-loop-second
decreases-loop-second l = hash_map_len l.self.contents
