use Rattle.std.proofs.Common.{sym, subst}
use Rattle.ir_tree.specs.Rules.{Sound}
use Rattle.ir_tree.specs.declared.function.Function.{Function}
use Rattle.ir_flow.specs.OfFunction.{IsGraphOf, IsReach}
use Rattle.ir_facts.specs.Steps.{IsApplied}
use Rattle.ir_facts.proofs.InRounds.{are_better}
use Rattle.ir_facts.proofs.rounds.apply.Goals as goal

pub into_applied-requires : goal.into_applied-requires
into_applied-requires c = record {
  sound = subst Sound (sym c.in_ok-copy.ensures) c.requires.sound;
  graph = subst (λ (f : Function). IsGraphOf f c.in_ok-flow.flow.edges) (sym c.in_ok-copy.ensures) c.in_ok-flow.ensures.graph;
  reach = subst (λ (f : Function). IsReach f c.in_ok-flow.flow.reached) (sym c.in_ok-copy.ensures) c.in_ok-flow.ensures.reach;
}

pub returns : goal.returns
returns c =
    let kept = are_better 16 c.args.f.now c.in_ok-g.g c.requires.sound made in
    record { made = made; better = kept.1; sound = kept.0 }
  where
    made : IsApplied c.args.f.now c.in_ok-g.g
    made = subst (λ (f : Function). IsApplied f c.in_ok-g.g) c.in_ok-copy.ensures c.in_ok-g.ensures.made
