use Rattle.std.proofs.Common.{◌∙◌, ◌++◌, ◌∷◌, [], Bool, List, ap, ap₂, get_or, map, sym, take}
use Rattle.std.proofs.lemmas.List.{map_push, take_more}
use Rattle.lto_task.specs.declared.piece.Piece.{Piece}
use Rattle.emit.specs.Graphs.{is_key}
use Rattle.emit.proofs.dropping.marks_by.Goals as goal

pub loop-piece-preserved : goal.loop-piece-preserved
loop-piece-preserved c =
    let f : Piece → Bool = λ p. is_key c.args.kept.now.keys p.name in
    let pieces : List Piece = c.args.pieces.now in
    let d : Piece = c.piece-item.result in
    c.in_ok-push.ensures.items
    ∙ ap₂ (λ (l : List Bool). λ (b : Bool). l ++ b ∷ []) c.loop-piece.invariant (c.is_kept.ensures ∙ ap f c.piece-item.is)
    ∙ sym (ap (map f) (take_more pieces c.loop-piece.piece-index d c.loop-piece-test.true) ∙ map_push f (take c.loop-piece.piece-index pieces) (get_or pieces c.loop-piece.piece-index d))
