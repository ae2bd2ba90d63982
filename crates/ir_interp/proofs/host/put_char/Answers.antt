use Rattle.std.proofs.Common.{sym, ap, ◌∙◌}
use Rattle.ir_meaning.specs.Execute.{puts_bits}
use Rattle.ir_interp.proofs.Passing.{many_put, one_put}
use Rattle.ir_interp.proofs.host.put_char.Goals as goal

pub returns-in-Some : goal.returns-in-Some
returns-in-Some c = λ names memory place.
    one_put names memory place c.args.arguments.now _ c.in-len1.len_at_least c.in-len1.len_below ∙ ap (puts_bits memory place) (sym (c.bits_of.ensures names) ∙ c.in-Some.is)

pub returns-in-None : goal.returns-in-None
returns-in-None c = λ names memory place.
    one_put names memory place c.args.arguments.now _ c.in-len1.len_at_least c.in-len1.len_below ∙ ap (puts_bits memory place) (sym (c.bits_of.ensures names) ∙ c.in-None.is)

pub returns-in_default-2 : goal.returns-in_default-2
returns-in_default-2 c = λ names memory place. many_put names memory place c.args.arguments.now c.in_default.len_at_least
