use Rattle.std.proofs.Common.{◌≡◌, ◌||◌, ◌&&◌, ℕ, not, nat_eq, length, drop}
use Rattle.std.specs.List.{list_any}
use Rattle.combined_index.specs.Entries.{is_module}
use Rattle.combined_index.specs.Indexed.{symbol_at}
use Rattle.lto_sets.specs.Sets.{contains}
use Rattle.combined_index.proofs.promotion.mark_refs.Given as goal

abbrev pub invariant-loop-symbol : goal.invariant-loop-symbol
invariant-loop-symbol l = record {
  len : length l.marks ≡ length l.fn.marks;
  marked : (n : ℕ)
      → (contains l.marks n || not (is_module l.importer (symbol_at l.symbols n).home) && list_any (nat_eq n) (drop l.symbol-index l.refs))
      ≡ (contains l.fn.marks n || not (is_module l.importer (symbol_at l.symbols n).home) && list_any (nat_eq n) l.refs);
}
