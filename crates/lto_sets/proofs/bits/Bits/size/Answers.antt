use Rattle.std.proofs.Common.{◌∙◌, sym, ap, length}
use Rattle.lto_sets.proofs.Rows.{length-row}
use Rattle.lto_sets.proofs.bits.Bits.size.Goals as goal

pub returns : goal.returns
returns c = sym (length-row c.self.inside.size c.self.inside.words.items) ∙ ap length c.self.view_is
