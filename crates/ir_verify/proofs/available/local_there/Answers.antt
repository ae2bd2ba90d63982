use Rattle.std.proofs.Common.{refl, sym, ◌∙◌}
use Rattle.ir_flow.specs.Dominating.{dominance}
use Rattle.ir_tree.specs.Flow.{locals}
use Rattle.ir_tree.specs.Formed.{numbers}
use Rattle.ir_verify.proofs.Homes.{local_found, found_parameter, found_home, none_left}
use Rattle.ir_verify.proofs.Points.{distinct_left, home_inside, parameter_there}
use Rattle.ir_verify.proofs.available.local_there.Goals as goal

pub returns-in_default : goal.returns-in_default
returns-in_default c =
    absurd (local_found c.args.function.now c.args.local c.requires.local (sym (c.requires.known.locals c.args.local) ∙ sym c.get.ensures ∙ none_left c.get.result c.in_default.not-Some))

pub home_there-requires-clause-home : goal.home_there-requires-clause-home
home_there-requires-clause-home c =
    let is = found_home c.args.function.now c.args.local c.in-Some.definition c.in-Some-home.home (sym (c.requires.known.locals c.args.local) ∙ sym c.get.ensures ∙ c.in-Some.is) c.in-Some-home.is in
    home_inside c.args.function.now (dominance c.args.known.now.dominators) c.requires.known.dominators c.in-Some-home.home c.args.local is

pub returns-in-Some-home : goal.returns-in-Some-home
returns-in-Some-home c =
    c.home_there.ensures c.args.function.now c.args.local c.requires.known.dominators (distinct_left (locals c.args.function.now) (numbers c.args.function.now) c.requires.formed.once)
    (found_home c.args.function.now c.args.local c.in-Some.definition c.in-Some-home.home (sym (c.requires.known.locals c.args.local) ∙ sym c.get.ensures ∙ c.in-Some.is) c.in-Some-home.is)

pub returns-in-None : goal.returns-in-None
returns-in-None c = (
  (λ e. parameter_there c.args.function.now c.args.local (found_parameter c.args.function.now c.args.local c.in-Some.definition (sym (c.requires.known.locals c.args.local) ∙ sym c.get.ensures ∙ c.in-Some.is) c.in-None.is) c.args.block c.args.line c.requires.within),
  (λ a. refl),
)
