use mathlib.Core.Logic.{∥∥₁_map}
use Rattle.std.proofs.Common.{ℕ, List, subst}
use Rattle.std.specs.List.{flat_map}
use Rattle.std.proofs.lemmas.Result.{IfOk-weaker}
use Rattle.lto_task.specs.declared.piece.Piece.{Piece}
use Rattle.emit.specs.Joins.{IsJoin}
use Rattle.link_one.proofs.linked.linked.Goals as goal

pub returns-clause-joined : goal.returns-clause-joined
returns-clause-joined g c =
    IfOk-weaker c.emit.result _ _
    (λ text join trusted.
    ∥∥₁_map (c.in_ok-pieces.ensures.units trusted)
    (λ are. record {
      units = c.in_ok-pieces.pieces.items;
      are = are;
      join =
          subst (λ (h : List ℕ). IsJoin c.args.exports.now (flat_map (λ u. u) c.in_ok-pieces.pieces.items) h text) c.as_slice.ensures
          (subst (λ (us : List (List Piece)). IsJoin c.args.exports.now (flat_map (λ u. u) us) c.as_slice.result.now text) c.deref.ensures.value join);
    }))
    c.emit.ensures

pub compiled-requires-clause-count : goal.compiled-requires-clause-count
compiled-requires-clause-count g c κs within = c.requires.count

pub compiled-requires-clause-pass : goal.compiled-requires-clause-pass
compiled-requires-clause-pass g c κs within = c.requires.pass

pub compiled-requires-clause-ready : goal.compiled-requires-clause-ready
compiled-requires-clause-ready g c κs within = c.requires.ready

pub returns-clause-pass : goal.returns-clause-pass
returns-clause-pass g c = c.in_ok-pieces.ensures.pass

pub returns-clause-seen : goal.returns-clause-seen
returns-clause-seen g c = c.in_ok-pieces.ensures.seen
