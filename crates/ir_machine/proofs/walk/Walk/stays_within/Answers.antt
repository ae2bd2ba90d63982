use Rattle.std.proofs.Common.{◌&&◌, nat_le, ℤ, pos, ◌+ℤ◌, ◌*ℤ◌, ap, ◌∙◌, w64}
use Rattle.std.proofs.lemmas.Int.{to_z-of_z}
use Rattle.ir_meaning.specs.Address.{is_within}
use Rattle.ir_machine.proofs.walk.Walk.stays_within.Goals as goal

pub returns : goal.returns
returns c =
    c.both.ensures
    ∙ ap (λ v. c.args.self.within && v)
    (c.both-here.ensures
    ∙ ap (λ v. nat_le c.args.self.offset c.args.self.size && v)
    (c.lands_within.ensures
    ∙ ap (λ (z : ℤ). is_within c.args.self.size (pos c.args.self.offset +ℤ z *ℤ pos c.args.bytes)) (to_z-of_z w64 c.args.count c.ranges.count)))
