use Rattle.std.proofs.Common.{◌∙◌, sym, subst, arith}
use Rattle.ir_tree.specs.Rules.{Sound}
use Rattle.slot_promote.proofs.NoSlots.{no_slots, none_of}
use Rattle.slot_promote.proofs.PromotedSound.{is_sound}
use Rattle.slot_promote.proofs.SameGraph.{promoted_graph, promoted_reach}
use Rattle.slot_promote.proofs.promotion.into_promoted.Goals as goal

pub returns-then-count-eq0 : goal.returns-then-count-eq0
returns-then-count-eq0 c = record {
  promoted = no_slots c.args.f (sym c.in_ok-slots.ensures.list ∙ none_of c.in_ok-slots.slots.list.items (omega (arith, c.len-count.ensures, c.if-count-eq0.true)));
  sound = λ h. h;
  graph = c.requires.graph;
  reach = λ reached h. h;
}

pub returns : goal.returns
returns c = record {
  promoted = c.in_ok-g.ensures;
  sound = λ sound. subst Sound (sym c.in_ok-g.ensures) (is_sound c.args.f sound);
  graph = promoted_graph c.args.f c.in_ok-g.g c.in_ok-g.ensures c.args.edges.now c.requires.graph;
  reach = promoted_reach c.args.f c.in_ok-g.g c.in_ok-g.ensures;
}
