use Rattle.std.proofs.Common.{rules}
use Rattle.std.proofs.lemmas.Cmp.{nat_list_cmp_total}
use Rattle.std.proofs.lemmas.List.Sorted.{answers_always, ranks_by}
use Rattle.std.specs.Ordering.{is_lt}
use Rattle.lto_task.specs.declared.piece.Piece.{Piece}
use Rattle.emit.specs.Joins.{piece_cmp}
use Rattle.link_one.proofs.task_unit.sort_pieces.Goals as goal

pub returns : goal.returns
returns c = record {
  same = c.sort_by.ensures.permutation;
  sorted = c.in_ok-sort_by.ensures.sorted (λ p q. is_lt (piece_cmp p q)) (ranks_by nat_list_cmp_total (λ (p : Piece). p.name)) (answers_always _ _ _ (λ f a r g h. search rules));
  stable = c.sort_by.ensures.stable (λ p q. is_lt (piece_cmp p q)) (ranks_by nat_list_cmp_total (λ (p : Piece). p.name)) (answers_always _ _ _ (λ f a r g h. search rules));
}
