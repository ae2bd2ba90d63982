use Rattle.std.proofs.Common.{◌≡◌, ◌||◌, ◌&&◌, ℕ, not, length, drop}
use Rattle.lto_sets.specs.Sets.{contains}
use Rattle.combined_index.specs.Brought.{is_in_one}
use Rattle.combined_index.specs.Promotions.{is_local_to}
use Rattle.combined_index.proofs.promotion.mark_imports.Given as goal

abbrev pub invariant-loop-function : goal.invariant-loop-function
invariant-loop-function l = record {
  len : length l.marks ≡ length l.fn.marks;
  marked : (n : ℕ)
      → (contains l.marks n || not (is_local_to l.index l.importer n) && is_in_one l.index (drop l.function-index l.functions) n)
      ≡ (contains l.fn.marks n || not (is_local_to l.index l.importer n) && is_in_one l.index l.functions n);
}
