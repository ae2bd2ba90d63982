use Rattle.std.proofs.Common.{◌^◌, ◌<◌, ◌&&◌, nat_le, ℤ, pos, ◌+ℤ◌, ◌*ℤ◌, ap, ◌∙◌, w64, rules}
use Rattle.std.proofs.lemmas.Int.{to_z-of_z}
use Rattle.ir_meaning.specs.Address.{is_within}
use Rattle.lto_bits.specs.Word.{wrapped}
use Rattle.ir_machine.proofs.Walks.{on_ends}
use Rattle.ir_machine.proofs.walk.Walk.on.Goals as goal

pub returns-clause-ends : goal.returns-clause-ends
returns-clause-ends c =
    let w = c.args.self in
    let count = to_z-of_z w64 c.args.count c.ranges.count in
    let low : c.args.self.size < 2 ^ 64 = search rules in
    λ inbounds zeros ds.
    on_ends inbounds w.zero c.args.zero zeros w.within w.size w.offset (c.args.count *ℤ pos c.args.bytes) ds c.moved.result c.stays_within.result c.both.result low
    (c.moved.ensures ∙ ap (λ (z : ℤ). wrapped 64 (pos w.offset +ℤ z *ℤ pos c.args.bytes)) count)
    (c.stays_within.ensures ∙ ap (λ (z : ℤ). w.within && (nat_le w.offset w.size && is_within w.size (pos w.offset +ℤ z *ℤ pos c.args.bytes))) count)
    c.both.ensures
