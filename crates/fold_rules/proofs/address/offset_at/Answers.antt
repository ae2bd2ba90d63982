use Rattle.std.proofs.Common.{◌∙◌, ap, w64, of_z, FitsSigned, rules}
use Rattle.std.proofs.lemmas.Int.{to_z-of_z}
use Rattle.ir_meaning.proofs.Wraps.{bits_are}
use Rattle.fold_rules.proofs.address.offset_at.Goals as goal

pub returns : goal.returns
returns c =
    let fits : FitsSigned w64 c.args.walk.place = search rules in
    c.cast_unsigned.ensures ∙ ap (of_z w64) (to_z-of_z w64 c.args.walk.place fits) ∙ bits_are c.args.walk.place fits
