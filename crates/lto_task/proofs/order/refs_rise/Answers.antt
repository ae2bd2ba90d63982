use Rattle.std.proofs.Common.{List, ℕ, arith, refl, subst, take_all}
use Rattle.std.specs.Prelude.{All}
use Rattle.std.proofs.lemmas.List.Elements.{All-more}
use Rattle.lto_task.specs.Pieces.{NamesRise}
use Rattle.lto_task.specs.declared.piece.Piece.{Piece}
use Rattle.lto_task.proofs.order.refs_rise.Goals as goal

pub loop-piece-preserved : goal.loop-piece-preserved
loop-piece-preserved c =
    All-more (λ (p : Piece). NamesRise p.refs) c.args.pieces.now c.loop-piece.piece-index c.piece-item.result c.loop-piece-test.true c.loop-piece.invariant
    (subst (λ (p : Piece). NamesRise p.refs) c.piece-item.is
    (subst (λ (ns : List (List ℕ)). NamesRise ns) c.as_slice.ensures (c.names_rise.ensures.0 c.if-not-names_rise.false)))

pub returns : goal.returns
returns c = (
  λ _. subst (All (λ (p : Piece). NamesRise p.refs)) (take_all c.loop-piece.piece-index c.args.pieces.now (omega (arith, c.loop-piece-test.false))) c.loop-piece.invariant,
  λ _. refl,
)
