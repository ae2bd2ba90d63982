use Rattle.std.proofs.Common.{rules, arith, ap, length, refl}
use Rattle.claim_word.proofs.Handing.{splits}
use Rattle.claim_word.proofs.Numbering.{numbers}
use Rattle.claim_word.proofs.Views.{knows_none}
use Rattle.claim_word.proofs.claims.Claims.split.Goals as goal

pub loop-bit-init : goal.loop-bit-init
loop-bit-init c = record { table = refl; id = refl; view = knows_none c.args.pass.now.seat.me.0 }

pub fetch_or-found-requires : goal.fetch_or-found-requires
fetch_or-found-requires c =
    let key = ap (λ k. k.1) c.args.self.now.key in
    let seen = ap (λ d. d.seen) c.loop-bit.invariant.view in
    (search rules, search rules, numbers _ _ _ _ _ _ (omega arith) (omega arith) c.loop-bit.pass.holds_one)

pub split_seat-seat-requires : goal.split_seat-seat-requires
split_seat-seat-requires c =
    let is = c.fetch_or-found.ensures.2.0 c.if-found-eq0.true in
    let more = ap (λ d. length d.bits) is in
    let one = c.loop-bit.pass.holds_one in
    (search rules, search rules, splits _ _ _ _ (omega arith))
