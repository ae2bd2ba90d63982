use Rattle.std.proofs.Common.{option_copied, sym, ap, ◌∙◌, arith, true≢false}
use Rattle.std.proofs.lemmas.Bool.{eq-eqb, eqb-true}
use Rattle.ir_interp.proofs.Runnable.{begins_nowhere, begins_there}
use Rattle.ir_interp.proofs.code.Code.can_begin.Goals as goal

pub returns-in-Some : goal.returns-in-Some
returns-in-Some c =
    let f = c.in-Some.function.now in
    let is = sym c.function.ensures ∙ ap option_copied c.in-Some.is in
    let count = c.len.ensures in
    let own = f.params.ok in (
      λ e. (f, (is, omega (arith, eqb-true c.len.result c.args.count e, count, own))),
      λ h. let long = begins_there c.args.self.now c.args.root c.args.count f is h in eq-eqb c.len.result c.args.count (omega (arith, long, count, own)),
    )

pub returns-in-None : goal.returns-in-None
returns-in-None c =
    let none = sym c.function.ensures ∙ ap option_copied c.in-None.is in
    (λ e. absurd (true≢false (sym e)), λ h. absurd (begins_nowhere c.args.self.now c.args.root c.args.count none h))
