use Rattle.std.proofs.Common.{◌≡◌, ℕ, ◌<◌, length}
use Rattle.lto_sets.specs.Sets.{contains}
use Rattle.ir_facts.proofs.points.bits_of.Given as goal

abbrev pub invariant-loop-place : goal.invariant-loop-place
invariant-loop-place l = record {
  sized : length l.bits ≡ length l.marks;
  done : (k : ℕ) → k < l.place → contains l.bits k ≡ contains l.marks k;
}
