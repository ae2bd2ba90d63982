use Rattle.std.proofs.Common.{◌≡◌, ℕ, [], length}
use Rattle.combined_index.specs.Brought.{row}
use Rattle.combined_index.proofs.lists.empty_lists.Given as goal

abbrev pub invariant-loop : goal.invariant-loop
invariant-loop l = record { len : length l.lists.items ≡ l.counter; empty : (i : ℕ) → row l.lists.items i ≡ [] }
