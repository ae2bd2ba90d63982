use Rattle.std.proofs.Common.{◌∙◌, ◌+◌, ap, length}
use Rattle.std.proofs.lemmas.List.{length_push}
use Rattle.combined_index.specs.Brought.{row}
use Rattle.combined_index.proofs.Filled.{rows_empty}
use Rattle.combined_index.proofs.lists.empty_lists.Goals as goal

pub loop-preserved : goal.loop-preserved
loop-preserved c = record {
  len = ap (λ z. length z) c.in_ok-push.ensures.items ∙ length_push c.loop.lists.items _ ∙ ap (λ n. n + 1) c.loop.invariant.len;
  empty = λ i. ap (λ z. row z i) c.in_ok-push.ensures.items ∙ rows_empty c.loop.lists.items _ i c.new.ensures.items c.loop.invariant.empty;
}
