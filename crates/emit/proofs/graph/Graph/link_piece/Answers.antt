use Rattle.std.proofs.Common.{◌≡◌, ◌∙◌, ◌++◌, List, ℕ, append-nil, refl, ap, arith, sym, subst}
use Rattle.std.proofs.lemmas.List.{drop_all}
use Rattle.std.specs.List.{flat_map}
use Rattle.emit.specs.Graphs.{Edge, Linked, edge}
use Rattle.emit.proofs.Listing.{one_done}
use Rattle.emit.proofs.graph.Graph.link_piece.Goals as goal

pub loop-to-init : goal.loop-to-init
loop-to-init c = record { long = c.requires; linked = λ es l. (es, refl, l) }

pub loop-to-preserved : goal.loop-to-preserved
loop-to-preserved c = record {
  long = c.in_ok-link.ensures.long;
  linked = λ es l.
      let so_far = c.loop-to.invariant.linked es l in (
        so_far.0 ++ edge c.as_slice-from.result.now c.as_slice.result.now,
        one_done (edge c.as_slice-from.result.now) so_far.0 (es ++ flat_map (edge c.as_slice-from.result.now) c.as_slice-refs.result.now) c.as_slice-refs.result.now c.loop-to.to-index
            c.as_slice.result.now c.to-item.result c.loop-to-test.true (c.as_slice.ensures ∙ c.to-item.is) so_far.1,
        c.in_ok-link.ensures.linked so_far.0 so_far.2,
      );
}

pub returns-clause-linked : goal.returns-clause-linked
returns-clause-linked c = λ es l.
    let so_far = c.loop-to.invariant.linked es l in
    let all : so_far.0 ≡ es ++ flat_map (edge c.as_slice-from.result.now) c.as_slice-refs.result.now =
    sym (append-nil so_far.0) ∙ ap (λ (xs : List (List ℕ)). so_far.0 ++ flat_map (edge c.as_slice-from.result.now) xs) (sym (drop_all c.loop-to.to-index c.as_slice-refs.result.now (omega arith)))
    ∙ so_far.1 in
    subst (λ (name : List ℕ). Linked (es ++ flat_map (edge name) c.args.piece.now.refs) c.loop-to.self.names.keys c.loop-to.self.rows.items) c.as_slice-from.ensures
    (subst (λ (refs : List (List ℕ)). Linked (es ++ flat_map (edge c.as_slice-from.result.now) refs) c.loop-to.self.names.keys c.loop-to.self.rows.items) c.as_slice-refs.ensures
    (subst (λ (done : List Edge). Linked done c.loop-to.self.names.keys c.loop-to.self.rows.items) all so_far.2))
