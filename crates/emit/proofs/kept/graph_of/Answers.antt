use Rattle.std.proofs.Common.{◌≡◌, ◌∙◌, ◌++◌, [], List, append-nil, refl, ap, arith, sym, subst}
use Rattle.std.proofs.lemmas.List.{drop_all}
use Rattle.std.specs.List.{flat_map}
use Rattle.lto_task.specs.declared.piece.Piece.{Piece}
use Rattle.emit.specs.Graphs.{Edge, Linked, edges}
use Rattle.emit.proofs.Listing.{one_done}
use Rattle.emit.proofs.kept.graph_of.Goals as goal

pub loop-unit-init : goal.loop-unit-init
loop-unit-init c = record { long = c.new-graph.ensures.long; linked = ([], refl, c.new-graph.ensures.linked) }

pub loop-unit-preserved : goal.loop-unit-preserved
loop-unit-preserved c =
    let so_far = c.loop-unit.invariant.linked in record {
      long = c.in_ok-link_pieces.ensures.long;
      linked = (
        so_far.0 ++ edges c.as_slice.result.now,
        one_done edges so_far.0 (flat_map edges c.args.units.now) c.args.units.now c.loop-unit.unit-index c.as_slice.result.now c.unit-item.result c.loop-unit-test.true
            (c.as_slice.ensures ∙ c.unit-item.is) so_far.1,
        c.in_ok-link_pieces.ensures.linked so_far.0 so_far.2,
      );
    }

pub returns-clause-long : goal.returns-clause-long
returns-clause-long c = c.loop-unit.invariant.long

pub returns-clause-linked : goal.returns-clause-linked
returns-clause-linked c =
    let so_far = c.loop-unit.invariant.linked in
    let all : so_far.0 ≡ flat_map edges c.args.units.now =
    sym (append-nil so_far.0) ∙ ap (λ (us : List (List Piece)). so_far.0 ++ flat_map edges us) (sym (drop_all c.loop-unit.unit-index c.args.units.now (omega arith))) ∙ so_far.1 in
    subst (λ (done : List Edge). Linked done c.loop-unit.graph.names.keys c.loop-unit.graph.rows.items) all so_far.2
