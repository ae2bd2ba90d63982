use Rattle.std.proofs.Common.{◌≡◌, ◌∙◌, ◌-◌, List, arith, length, map, refl}
use Rattle.std.proofs.lemmas.Bool.{false≢true}
use Rattle.std.proofs.lemmas.List.{length-map}
use Rattle.lto_task.specs.declared.piece.Piece.{Piece}
use Rattle.lto_task.proofs.Rises.{named_at, rise_below_all, rise_more, rise_pair}
use Rattle.lto_task.proofs.order.pieces_rise.Goals as goal

count : (pieces : List Piece) → length (map (λ p. p.name) pieces) ≡ length pieces
count pieces = length-map pieces (λ (p : Piece). p.name)

pub returns-then-not-is_before : goal.returns-then-not-is_before
returns-then-not-is_before c = (
  λ e. absurd (false≢true e),
  λ up. c.if-not-is_before.ensures.1
      (rise_pair (map (λ p. p.name) c.args.pieces.now) c.loop-i.i c.as_slice.result.now c.as_slice-in-loop-i.result.now (omega arith) (omega (arith, count c.args.pieces.now))
      (c.as_slice.ensures ∙ named_at c.args.pieces.now (c.loop-i.i - 1) c.index-pieces-i.result (omega arith))
      (c.as_slice-in-loop-i.ensures ∙ named_at c.args.pieces.now c.loop-i.i c.index-pieces-i-in-loop-i.result (omega arith)) up),
)

pub loop-i-preserved : goal.loop-i-preserved
loop-i-preserved c =
    rise_more (map (λ p. p.name) c.args.pieces.now) c.loop-i.i c.as_slice.result.now c.as_slice-in-loop-i.result.now (omega arith)
    (c.as_slice.ensures ∙ named_at c.args.pieces.now (c.loop-i.i - 1) c.index-pieces-i.result (omega arith))
    (c.as_slice-in-loop-i.ensures ∙ named_at c.args.pieces.now c.loop-i.i c.index-pieces-i-in-loop-i.result (omega arith))
    (c.is_before.ensures.0 c.if-not-is_before.false) c.loop-i.invariant

pub returns : goal.returns
returns c = (λ _. rise_below_all (map (λ p. p.name) c.args.pieces.now) c.loop-i.i (omega (arith, c.loop-i-test.false, count c.args.pieces.now)) c.loop-i.invariant, λ _. refl)
