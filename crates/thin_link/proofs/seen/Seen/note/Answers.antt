use Rattle.std.proofs.Common.{◌∙◌, Bool, true, List, ap, set}
use Rattle.thin_link.proofs.Noting.{noted_more}
use Rattle.thin_link.proofs.seen.Seen.note.Goals as goal

pub returns : goal.returns
returns c = noted_more c.self.inside.turn c.args.number c.self.inside.turns.items ∙ ap (λ (s : List Bool). set s c.args.number true) c.self.view_is
