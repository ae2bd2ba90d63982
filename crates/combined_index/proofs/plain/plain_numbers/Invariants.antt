use Rattle.std.proofs.Common.{◌≡◌, ◌≤◌, ℕ, List, drop, length}
use Rattle.std.specs.List.{position_from}
use Rattle.combined_index.specs.Combined.{is_plain}
use Rattle.combined_index.specs.Tables.{looked_up}
use Rattle.combined_index.proofs.plain.plain_numbers.Given as goal

abbrev pub invariant-loop-number : goal.invariant-loop-number
invariant-loop-number l = record {
  within : l.number ≤ length l.symbols;
  noted : (name : List ℕ) → looked_up l.plain.entries name ≡ position_from (is_plain name) l.number (drop l.number l.symbols);
}

abbrev pub decreases-loop-number : goal.decreases-loop-number
decreases-loop-number l = l.number
