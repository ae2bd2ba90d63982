use Rattle.std.proofs.Common.{ℤ, pos, ◌+ℤ◌, ◌*ℤ◌, ap, ◌∙◌, w64, FitsSigned}
use Rattle.std.proofs.lemmas.Int.{to_z-of_z}
use Rattle.lto_bits.specs.Word.{wrapped}
use Rattle.ir_meaning.proofs.Wraps.{sum_right}
use Rattle.ir_machine.proofs.part.moved.Goals as goal

pub returns : goal.returns
returns c =
    let place : FitsSigned w64 c.added.result = record { sfits = c.added.type_inv } in
    let by : FitsSigned w64 c.times.result = record { sfits = c.times.type_inv } in
    c.unsigned.ensures ∙ ap (wrapped 64) (to_z-of_z w64 c.added.result place)
    ∙ c.added.ensures ∙ ap (λ (z : ℤ). wrapped 64 (pos c.args.offset +ℤ z)) (to_z-of_z w64 c.times.result by)
    ∙ sum_right c.times.result (c.args.count *ℤ pos c.args.bytes) (pos c.args.offset)
    (c.times.ensures ∙ ap (λ (z : ℤ). wrapped 64 (z *ℤ pos c.args.bytes)) (to_z-of_z w64 c.args.count c.ranges.count))
