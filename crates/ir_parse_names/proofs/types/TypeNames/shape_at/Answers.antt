use Rattle.std.proofs.Common.{ap, sym, ◌∙◌}
use Rattle.ir_parse_names.proofs.SameTypes.{at_place, said, copied}
use Rattle.ir_parse_names.proofs.types.TypeNames.shape_at.Goals as goal

pub returns-in-None : goal.returns-in-None
returns-in-None c =
    rw (sym c.self.view_is) (ap said c.in-None.ensures.entry ∙ at_place c.self.inside.map.entries c.args.place)

pub returns-in-Some : goal.returns-in-Some
returns-in-Some c =
    rw (sym c.self.view_is) (copied c.in-Some.shape.now ∙ ap said c.in-Some.ensures.entry ∙ at_place c.self.inside.map.entries c.args.place)
