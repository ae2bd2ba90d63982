use Rattle.std.proofs.Common.{◌≡◌, ◌||◌, ℕ, nat_eq, drop}
use Rattle.std.specs.HashSet as hash
use Rattle.lto_sets.specs.Sets.{contains}
use Rattle.block_trim.specs.Places.{stands}
use Rattle.block_trim.proofs.reached.numbers_at.Given as goal

abbrev pub invariant-loop-place : goal.invariant-loop-place
invariant-loop-place l = (n : ℕ) → (hash.contains nat_eq l.numbers n || stands (contains l.places) l.place (drop l.place l.blocks) n) ≡ stands (contains l.places) 0 l.blocks n
