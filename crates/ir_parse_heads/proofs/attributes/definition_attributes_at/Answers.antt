use Rattle.std.proofs.Common.{◌≡◌, sym, subst}
use Rattle.ir_parse_parts.specs.Alphabet.{among}
use Rattle.ir_parse_parts.specs.Readers.{star_at, folded}
use Rattle.ir_parse_heads.specs.Attributes.{none_kept, with_attribute}
use Rattle.ir_parse_heads.specs.declared.attributes.Kept.{Kept}
use Rattle.ir_parse_parts.proofs.Stars.{takes, folds_on}
use Rattle.ir_parse_parts.specs.Classes.{tokens}
use Rattle.ir_parse_heads.specs.AttributesAt.{DEFINITION, definition_attribute_at}
use Rattle.ir_parse_heads.proofs.AttributeRules.{definition_attribute_rule}
use Rattle.ir_parse_heads.proofs.attributes.definition_attributes_at.Goals as goal

pub each-smaller : goal.each-smaller
each-smaller c = takes tokens (among tokens DEFINITION) definition_attribute_rule.law _ _ _ c.in_ok-attribute.ensures

pub each-preserved : goal.each-preserved
each-preserved c = subst (λ (k : Kept). folded with_attribute k (star_at (among tokens DEFINITION) definition_attribute_at c.definition_attribute_at.new.tokens) ≡ folded with_attribute none_kept (star_at (among tokens DEFINITION) definition_attribute_at c.args.tokens.now)) (sym c.in_ok-kept.ensures) (folds_on tokens (among tokens DEFINITION) definition_attribute_rule.law with_attribute c.each.kept _ _ _ _ c.each-test.ensures c.in_ok-attribute.ensures c.each.invariant)
