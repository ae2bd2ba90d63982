use Rattle.std.proofs.Common.{ℕ, List, Bor, subst}
use Rattle.std.specs.List.{flat_map}
use Rattle.std.proofs.lemmas.Result.{IfOk-weaker}
use Rattle.lto_task.specs.declared.piece.Piece.{Piece}
use Rattle.emit.specs.Graphs.{Edge, Linked, edges, edges_of}
use Rattle.emit.proofs.Listing.{flat_twice}
use Rattle.emit.proofs.kept.kept.Goals as goal

-- the references of all units are those of all pieces
all_edges : (units : List (List Piece)) (keys : List (Bor (List ℕ))) (rows : List (List ℕ)) → Linked (flat_map edges units) keys rows → Linked (edges (flat_map (λ u. u) units)) keys rows
all_edges units keys rows l = subst (λ (es : List Edge). Linked es keys rows) (flat_twice edges_of units) l

pub reached_from-requires : goal.reached_from-requires
reached_from-requires c = record {
  linked = record {
    pieces = flat_map (λ u. u) c.args.units.now;
    linked = all_edges c.args.units.now c.in_ok-graph.graph.names.keys c.in_ok-graph.graph.rows.items c.in_ok-graph.ensures.linked;
  };
}

pub returns : goal.returns
returns c =
    IfOk-weaker c.reached_from.result _ _
    (λ kept so. so (flat_map (λ u. u) c.args.units.now) (all_edges c.args.units.now c.in_ok-graph.graph.names.keys c.in_ok-graph.graph.rows.items c.in_ok-graph.ensures.linked))
    c.reached_from.ensures
