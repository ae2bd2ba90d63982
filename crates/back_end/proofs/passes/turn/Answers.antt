use Rattle.std.proofs.Common.{◌∙◌, sym}
use Rattle.back_end.specs.Made.{IsTurn}
use Rattle.back_end.proofs.Turning.{turn_of, unchanged}
use Rattle.back_end.proofs.passes.turn.Goals as goal

pub returns : goal.returns
returns c = record {
  made = made;
  sound = (c.turn_is_better.ensures c.args.f c.in_ok-g.g c.requires.sound made).0;
  same = λ neither. unchanged c.in_ok-propagated.replaced c.in_ok-g.changed c.args.f c.in_ok-propagated.propagated c.in_ok-g.g c.in_ok-propagated.ensures.same c.in_ok-g.ensures.same (sym c.either.ensures ∙ neither);
}
  where
    made : IsTurn c.args.f c.in_ok-g.g
    made = turn_of c.args.f c.in_ok-propagated.propagated c.in_ok-g.g c.in_ok-propagated.ensures.made c.in_ok-g.ensures.made

pub turn_from_branches-requires-clause-flow : goal.turn_from_branches-requires-clause-flow
turn_from_branches-requires-clause-flow c = record { graph = c.in_ok-propagated.ensures.graph; reach = c.in_ok-propagated.ensures.reach }
