use Rattle.back_end.proofs.passes.promoted.Goals as goal

pub turned-requires-clause-flow : goal.turned-requires-clause-flow
turned-requires-clause-flow c = record {
  graph = c.in_ok-promoted.ensures.graph;
  reach = c.in_ok-promoted.ensures.reach c.args.flow.now.reached c.requires.flow.reach;
}
