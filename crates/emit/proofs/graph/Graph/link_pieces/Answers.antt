use Rattle.std.proofs.Common.{◌≡◌, ◌∙◌, ◌++◌, List, append-nil, refl, ap, arith, sym, subst}
use Rattle.std.proofs.lemmas.List.{drop_all}
use Rattle.std.specs.List.{flat_map}
use Rattle.lto_task.specs.declared.piece.Piece.{Piece}
use Rattle.emit.specs.Graphs.{Edge, Linked, edges_of}
use Rattle.emit.proofs.Listing.{one_done}
use Rattle.emit.proofs.graph.Graph.link_pieces.Goals as goal

pub loop-piece-init : goal.loop-piece-init
loop-piece-init c = record { long = c.requires; linked = λ es l. (es, refl, l) }

pub loop-piece-preserved : goal.loop-piece-preserved
loop-piece-preserved c = record {
  long = c.in_ok-link_piece.ensures.long;
  linked = λ es l.
      let so_far = c.loop-piece.invariant.linked es l in (
        so_far.0 ++ edges_of c.piece-item.result,
        one_done edges_of so_far.0 (es ++ flat_map edges_of c.args.pieces.now) c.args.pieces.now c.loop-piece.piece-index c.piece-item.result c.piece-item.result c.loop-piece-test.true
            c.piece-item.is so_far.1,
        c.in_ok-link_piece.ensures.linked so_far.0 so_far.2,
      );
}

pub returns-clause-linked : goal.returns-clause-linked
returns-clause-linked c = λ es l.
    let so_far = c.loop-piece.invariant.linked es l in
    let all : so_far.0 ≡ es ++ flat_map edges_of c.args.pieces.now =
    sym (append-nil so_far.0) ∙ ap (λ (ps : List Piece). so_far.0 ++ flat_map edges_of ps) (sym (drop_all c.loop-piece.piece-index c.args.pieces.now (omega arith))) ∙ so_far.1 in
    subst (λ (done : List Edge). Linked done c.loop-piece.self.names.keys c.loop-piece.self.rows.items) all so_far.2
