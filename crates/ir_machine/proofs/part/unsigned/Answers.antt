use Rattle.std.proofs.Common.{◌∙◌, ap, w64, of_z}
use Rattle.std.proofs.lemmas.Int.{to_z-of_z}
use Rattle.ir_meaning.proofs.Wraps.{bits_are}
use Rattle.ir_machine.proofs.part.unsigned.Goals as goal

pub returns : goal.returns
returns c = c.cast_unsigned.ensures ∙ ap (of_z w64) (to_z-of_z w64 c.args.place c.ranges.place) ∙ bits_are c.args.place c.ranges.place
