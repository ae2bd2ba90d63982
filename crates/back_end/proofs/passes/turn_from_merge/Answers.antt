use Rattle.std.proofs.Common.{◌∙◌, sym}
use Rattle.ir_meaning.proofs.Entries.{apart}
use Rattle.back_end.proofs.Turning.{unchanged}
use Rattle.back_end.proofs.passes.turn_from_merge.Goals as goal

pub returns : goal.returns
returns c = record {
  made = (c.in_ok-merged.merged, c.in_ok-merged.ensures.merged (apart c.args.f c.requires.sound.formed), c.in_ok-g.ensures.needed);
  same = λ neither. unchanged c.in_ok-merged.joined c.in_ok-g.swept c.args.f c.in_ok-merged.merged c.in_ok-g.g c.in_ok-merged.ensures.same c.in_ok-g.ensures.same (sym c.either.ensures ∙ neither);
}
