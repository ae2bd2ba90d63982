use Rattle.std.proofs.Common.{[]}
use Rattle.std.proofs.lemmas.Result.{IfOk-weaker}
use Rattle.emit.proofs.kept.kept_of.Goals as goal

pub reached_from-requires : goal.reached_from-requires
reached_from-requires c = record { linked = record { pieces = c.args.pieces.now; linked = c.in_ok-link_pieces.ensures.linked [] c.new-graph.ensures.linked } }

pub returns : goal.returns
returns c =
    IfOk-weaker c.reached_from.result _ _
    (λ kept so. so c.args.pieces.now (c.in_ok-link_pieces.ensures.linked [] c.new-graph.ensures.linked))
    c.reached_from.ensures
