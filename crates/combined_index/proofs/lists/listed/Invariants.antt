use Rattle.std.proofs.Common.{◌≡◌, ◌<◌, ◌&&◌, ℕ, length, filter}
use Rattle.std.specs.List.{range_with_len}
use Rattle.combined_index.specs.Entries.{is_module}
use Rattle.combined_index.specs.Indexed.{symbol_at}
use Rattle.lto_sets.specs.Sets.{contains}
use Rattle.combined_index.specs.Brought.{row}
use Rattle.combined_index.proofs.lists.listed.Given as goal

abbrev pub invariant-loop-number : goal.invariant-loop-number
invariant-loop-number l = record {
  len : length l.lists.items ≡ l.modules;
  rows : (i : ℕ) → i < l.modules → row l.lists.items i ≡ filter (λ n. contains l.marks n && is_module i (symbol_at l.symbols n).home) (range_with_len 0 l.number);
}
