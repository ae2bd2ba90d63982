use Rattle.std.proofs.Common.{rules}
use Rattle.std.proofs.lemmas.Cmp.{nat_list_cmp_total}
use Rattle.std.proofs.lemmas.List.Sorted.{answers_always, ranks_by}
use Rattle.std.specs.Borrow.{Bor}
use Rattle.ir_tree.specs.declared.module.GlobalValue.{GlobalValue}
use Rattle.ir_meaning.specs.Programs.{symbol_of}
use Rattle.importer.proofs.SortedValues.{lesser_borrowed, values_in_order}
use Rattle.importer.proofs.tasks.sort_values.Goals as goal

pub returns : goal.returns
returns c =
    values_in_order _ _ c.sort_by.ensures.permutation
    (c.in_ok-sort_by.ensures.sorted lesser_borrowed (ranks_by nat_list_cmp_total (λ (g : Bor GlobalValue). (symbol_of g.now).name)) (answers_always _ _ _ (λ f a r g h. search rules)))
    (c.sort_by.ensures.stable lesser_borrowed (ranks_by nat_list_cmp_total (λ (g : Bor GlobalValue). (symbol_of g.now).name)) (answers_always _ _ _ (λ f a r g h. search rules)))
