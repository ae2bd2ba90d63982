use Rattle.std.proofs.lemmas.Fmt.{decimal_nonempty}
use Rattle.std.specs.Prelude.{codes, decimal}
use Rattle.ir_lex.specs.declared.token.TokenForm.TheVariants as forms
use Rattle.ir_print.specs.Instructions as instructions
use Rattle.ir_print.proofs.Written.{respelt_last, led_piece}
use Rattle.ir_print.proofs.instruction.aligned.Goals as goal

pub returns : goal.returns
returns c =
    let n = c.args.n in
    respelt_last _ _ (instructions.aligned n) _ _ (led_piece (codes ", align") (decimal n) forms.Number (decimal_nonempty n c.ranges.n.fits)) c.natural.ensures
