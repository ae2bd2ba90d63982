use Rattle.std.proofs.Common.{◌∙◌, List, option_map, sym, ap, ℕ}
use Rattle.std.proofs.lemmas.List.{drop_all}
use Rattle.std.specs.BTreeMap as tree
use Rattle.std.specs.Ordering.{nat_cmp}
use Rattle.ir_tree.specs.declared.operand.Operand.{Operand}
use Rattle.ir_edit.specs.Numbered.{later_or}
use Rattle.ir_edit.specs.Substituted.{replacement}
use Rattle.ir_edit.proofs.Replacing.{one_replaced}
use Rattle.ir_edit.proofs.substitution.Replacements.of.Goals as goal

pub loop-pair-preserved : goal.loop-pair-preserved
loop-pair-preserved c = λ x.
    one_replaced (λ o. o.now) c.args.pairs.now c.loop-pair.pair-index c.pair-item.result x c.pair-item.result.0 _ _ _ c.loop-pair-test.true
    (ap (λ (p : ℕ × Operand). p.0) c.pair-item.is) (ap (λ (p : ℕ × Operand). p.1) c.pair-item.is) (c.in_ok-insert.ensures.updates.0 x)
    ∙ c.loop-pair.invariant x

pub returns : goal.returns
returns c = λ x.
    ap (λ (l : List (ℕ × Operand)). later_or (replacement l x) (option_map (λ o. o.now) (tree.get nat_cmp c.loop-pair.values x))) (sym (drop_all c.loop-pair.pair-index c.args.pairs.now c.loop-pair-test.false))
    ∙ c.loop-pair.invariant x
