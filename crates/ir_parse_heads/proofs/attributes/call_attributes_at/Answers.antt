use Rattle.ir_parse_parts.specs.Alphabet.{among}
use Rattle.ir_parse_parts.specs.Readers.{dropped}
use Rattle.ir_parse_parts.proofs.Stars.{takes, folds_on}
use Rattle.ir_parse_parts.specs.Classes.{tokens}
use Rattle.ir_parse_heads.specs.AttributesAt.{CALL}
use Rattle.ir_parse_heads.proofs.AttributeRules.{call_attribute_rule}
use Rattle.ir_parse_heads.proofs.attributes.call_attributes_at.Goals as goal

pub each-smaller : goal.each-smaller
each-smaller c = takes tokens (among tokens CALL) call_attribute_rule.law _ _ _ c.in_ok-call_attribute_at.ensures

pub each-preserved : goal.each-preserved
each-preserved c = folds_on tokens (among tokens CALL) call_attribute_rule.law dropped tt _ _ _ _ c.each-test.ensures c.in_ok-call_attribute_at.ensures c.each.invariant

pub each-smaller-in_ok-call_attribute_at : goal.each-smaller-in_ok-call_attribute_at
each-smaller-in_ok-call_attribute_at c = takes tokens (among tokens CALL) call_attribute_rule.law _ _ _ c.in_ok-call_attribute_at.ensures

pub each-preserved-in_ok-call_attribute_at : goal.each-preserved-in_ok-call_attribute_at
each-preserved-in_ok-call_attribute_at c = folds_on tokens (among tokens CALL) call_attribute_rule.law dropped tt _ _ _ _ c.each-test.ensures c.in_ok-call_attribute_at.ensures c.each.invariant
