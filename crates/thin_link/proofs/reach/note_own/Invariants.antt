use Rattle.std.proofs.Common.{◌≡◌, ◌||◌, ℕ, length, drop}
use Rattle.lto_sets.specs.Sets.{contains}
use Rattle.thin_link.specs.Chains.{is_own}
use Rattle.thin_link.proofs.reach.note_own.Given as goal

abbrev pub invariant-loop-definition : goal.invariant-loop-definition
invariant-loop-definition l = record {
  len : length l.seen ≡ length l.fn.seen;
  noted : (n : ℕ) → (contains l.seen n || is_own (drop l.definition-index l.definitions) n) ≡ (contains l.fn.seen n || is_own l.definitions n);
}
