use Rattle.std.proofs.Common.{◌≡◌}
use Rattle.claim_word.specs.Views.{knows}
use Rattle.claim_word.proofs.claims.Claims.split.Given as goal

abbrev pub invariant-loop-bit : goal.invariant-loop-bit
invariant-loop-bit l = record {
  table : l.pass.seat.table_id ≡ l.initial.pass.seat.table_id;
  id : l.pass.seat.id ≡ l.initial.pass.seat.id;
  view : l.pass.seat.me.0 ≡ knows l.initial.pass.seat.me.0 l.bit;
}
