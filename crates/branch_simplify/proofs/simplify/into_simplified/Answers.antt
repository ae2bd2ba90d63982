use Rattle.std.proofs.Common.{◌∙◌, refl, sym, ap, subst}
use Rattle.std.proofs.lemmas.Bool.{false≢true}
use Rattle.ir_tree.specs.Rules.{Sound}
use Rattle.branch_simplify.specs.Staying.{ends_stay}
use Rattle.branch_simplify.proofs.NoneDecided.{none_decided}
use Rattle.branch_simplify.proofs.SimplifiedSound.{is_sound}
use Rattle.branch_simplify.proofs.simplify.into_simplified.Goals as goal

pub returns-then-stays : goal.returns-then-stays
returns-then-stays c = record { simplified = none_decided c.args.f (ap ends_stay (sym c.as_slice.ensures) ∙ sym c.ends_stay-stays.ensures ∙ c.if-stays.true); sound = λ h. h; same = λ e. refl }

pub returns : goal.returns
returns c = record { simplified = c.in_ok-g.ensures; sound = λ sound. subst Sound (sym c.in_ok-g.ensures) (is_sound c.args.f sound); same = λ e. absurd (false≢true (sym e)) }
