use Rattle.std.proofs.Common.{◌≡◌, ◌++◌, drop, map, take}
use Rattle.ir_tree.specs.Edited.{line_edited}
use Rattle.ir_edit.specs.Substituted.{operand_replaced}
use Rattle.fact_sources.specs.Substitutions.{value_in}
use Rattle.fact_sources.proofs.replacing.replace_in_each.Given as goal

abbrev pub invariant-loop-line : goal.invariant-loop-line
invariant-loop-line l =
    take l.line-index l.lines ++ map (line_edited (λ x. x) (operand_replaced (value_in l.substitution))) (drop l.line-index l.lines)
    ≡ map (line_edited (λ x. x) (operand_replaced (value_in l.substitution))) l.fn.lines
