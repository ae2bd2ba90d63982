use Rattle.std.proofs.Common.{◌≡◌, ◌||◌, ℕ, nat_eq, drop}
use Rattle.std.specs.HashSet as hash
use Rattle.block_trim.specs.Working.{has_one_edge, may_go}
use Rattle.block_trim.proofs.candidates.candidates.Given as goal

abbrev pub invariant-loop-place : goal.invariant-loop-place
invariant-loop-place l = (n : ℕ) → (hash.contains nat_eq l.numbers n || may_go (has_one_edge l.f.blocks) (drop l.place l.f.blocks) n) ≡ may_go (has_one_edge l.f.blocks) (drop 1 l.f.blocks) n
