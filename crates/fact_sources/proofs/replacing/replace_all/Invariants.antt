use Rattle.std.proofs.Common.{◌≡◌, ◌++◌, drop, map, take}
use Rattle.ir_tree.specs.Edited.{block_edited}
use Rattle.ir_edit.specs.Substituted.{operand_replaced}
use Rattle.fact_sources.specs.Substitutions.{value_in}
use Rattle.fact_sources.proofs.replacing.replace_all.Given as goal

abbrev pub invariant-loop-block : goal.invariant-loop-block
invariant-loop-block l =
    take l.block-index l.blocks ++ map (block_edited (λ x. x) (operand_replaced (value_in l.substitution))) (drop l.block-index l.blocks)
    ≡ map (block_edited (λ x. x) (operand_replaced (value_in l.substitution))) l.fn.blocks
