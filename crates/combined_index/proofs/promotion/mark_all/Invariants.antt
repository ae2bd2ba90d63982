use Rattle.std.proofs.Common.{◌≡◌, ◌||◌, ℕ, length, drop}
use Rattle.lto_sets.specs.Sets.{contains}
use Rattle.combined_index.specs.Brought.{is_brought, rows}
use Rattle.combined_index.proofs.promotion.mark_all.Given as goal

abbrev pub invariant-loop-functions : goal.invariant-loop-functions
invariant-loop-functions l = record {
  len : length l.marks ≡ length l.fn.marks;
  marked : (n : ℕ)
      → (contains l.marks n || is_brought l.index l.importer (rows (drop l.functions-index l.imports)) n)
      ≡ (contains l.fn.marks n || is_brought l.index 0 (rows l.imports) n);
}
