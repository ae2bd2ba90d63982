use Rattle.std.proofs.Common.{◌≡◌, ◌<◌, ℕ, length}
use Rattle.slot_promote.specs.Promoted.{ends_with}
use Rattle.slot_promote.specs.Tables.{ends_in, first_in, place_in}
use Rattle.slot_promote.proofs.promotion.block_ends.Given as goal

abbrev pub invariant-loop-place : goal.invariant-loop-place
invariant-loop-place l = record {
  length : length l.ends.items ≡ l.place;
  ends : (p : ℕ) → p < l.place → ends_in (place_in l.slots) l.ends.items p ≡ ends_with (place_in l.slots) (first_in l.firsts) l.blocks p;
}
