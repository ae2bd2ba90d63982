use Rattle.std.proofs.Common.{rules}
use Rattle.std.proofs.lemmas.Cmp.{nat_list_cmp_total}
use Rattle.std.proofs.lemmas.List.Sorted.{answers_always, ranks_by}
use Rattle.std.specs.Borrow.{Bor}
use Rattle.lto_task.specs.declared.piece.Piece.{Piece}
use Rattle.emit.proofs.Sorting.{in_order, lesser_borrowed}
use Rattle.emit.proofs.order.sort_pieces.Goals as goal

pub returns : goal.returns
returns c =
    in_order _ _ c.sort_by.ensures.permutation
    (c.in_ok-sort_by.ensures.sorted lesser_borrowed (ranks_by nat_list_cmp_total (λ (g : Bor Piece). g.now.name)) (answers_always _ _ _ (λ f a r g h. search rules)))
    (c.sort_by.ensures.stable lesser_borrowed (ranks_by nat_list_cmp_total (λ (g : Bor Piece). g.now.name)) (answers_always _ _ _ (λ f a r g h. search rules)))
