use Rattle.std.proofs.Common.{List, ap, ◌∙◌}
use Rattle.ir_parse_parts.specs.Alphabet.{among}
use Rattle.ir_parse_parts.specs.Readers.{folded}
use Rattle.ir_parse_parts.proofs.Stars.{behind, collected, takes, folds_on}
use Rattle.ir_parse_parts.specs.Classes.{tokens}
use Rattle.ir_parse_parts.specs.declared.address.Index.{Index}
use Rattle.ir_parse_parts.specs.MetadataAt.{COMMA}
use Rattle.ir_parse_operands.specs.ValuesAt.{indices_at}
use Rattle.ir_parse_operands.proofs.ValueRules.{index_rule}
use Rattle.ir_parse_operands.proofs.values.indices_at.Goals as goal

pub each-init : goal.each-init
each-init c = ap (λ (x : List Index). folded behind x (indices_at c.args.tokens.now)) c.new-indices.ensures.items ∙ collected (indices_at c.args.tokens.now)

pub each-smaller : goal.each-smaller
each-smaller c = takes tokens (among tokens COMMA) index_rule.law _ _ _ c.in_ok-index.ensures

pub each-preserved : goal.each-preserved
each-preserved c = ap (λ (x : List Index). folded behind x (indices_at c.index_at.new.tokens)) c.in_ok-push.ensures.items ∙ folds_on tokens (among tokens COMMA) index_rule.law behind c.each.indices.items _ _ _ _ c.each-test.ensures c.in_ok-index.ensures c.each.invariant
