use Rattle.std.proofs.Common.{rules}
use Rattle.std.proofs.lemmas.List.Sorted.{answers_always}
use Rattle.thin_link.proofs.Sorting.{in_order}
use Rattle.thin_link.proofs.order.sort_entries.Goals as goal

pub returns-clause-order : goal.returns-clause-order
returns-clause-order c =
    in_order _ _ c.sort_by_key.ensures.permutation (c.in_ok-sort_by_key.ensures.sorted (λ e. (e.name, e.home)) (answers_always _ _ _ (λ f a r g h. search rules)))
    (c.sort_by_key.ensures.stable (λ e. (e.name, e.home)) (answers_always _ _ _ (λ f a r g h. search rules)))
