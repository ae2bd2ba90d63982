use Rattle.std.proofs.Common.{◌≡◌, ◌∙◌, List, map, subst, sym}
use Rattle.std.specs.Prelude.{All}
use Rattle.std.proofs.lemmas.Bool.{false≢true}
use Rattle.lto_task.specs.Pieces.{NamesRise}
use Rattle.lto_task.specs.declared.piece.Piece.{Piece}
use Rattle.lto_task.proofs.Apart.{pieces_one}
use Rattle.lto_task.proofs.taking_apart.pieces.Goals as goal

pub returns-then-not-is_in_order : goal.returns-then-not-is_in_order
returns-then-not-is_in_order c = λ ps u is.
    let read = rw c.in-Some.is at c.in_ok-pieces.ensures in
    let same : ps ≡ c.in-Some.pieces = pieces_one ps c.in-Some.pieces u.each read.0 (sym is ∙ read.1) in
    false≢true
    (sym c.if-not-is_in_order.true
    ∙ c.is_in_order.ensures.1
    (subst (λ (qs : List Piece). All (λ (p : Piece). NamesRise p.refs) qs × NamesRise (map (λ (p : Piece). p.name) qs)) (same ∙ sym c.as_slice.ensures) (u.refs, u.rise)))
