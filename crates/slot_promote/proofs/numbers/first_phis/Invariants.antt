use Rattle.std.proofs.Common.{◌≡◌, ◌<◌, ℕ, length}
use Rattle.ir_flow.specs.Graph.{row}
use Rattle.slot_promote.specs.Promoted.{first_phi, free}
use Rattle.slot_promote.specs.Tables.{first_in}
use Rattle.slot_promote.proofs.numbers.first_phis.Given as goal

abbrev pub invariant-loop-place : goal.invariant-loop-place
invariant-loop-place l = record {
  length : length l.firsts.items ≡ l.place;
  free : l.free ≡ free (row l.edges) l.slots l.fn.next l.place;
  firsts : (p : ℕ) → p < l.place → first_in l.firsts.items p ≡ first_phi (row l.edges) l.slots l.fn.next p;
}
