use Rattle.std.proofs.Common.{Bool, ap, ◌∙◌}
use Rattle.ir_parse_parts.specs.Alphabet.{among}
use Rattle.ir_parse_parts.specs.Readers.{star_at, folded}
use Rattle.ir_parse_parts.proofs.Stars.{takes, folds_on}
use Rattle.ir_parse_parts.specs.Ahead.{STEPPING}
use Rattle.ir_parse_parts.specs.Classes.{tokens, one_of_at}
use Rattle.ir_parse_operands.specs.Values.{is_inbounds, or_inbounds}
use Rattle.ir_parse_operands.proofs.ValueRules.{flag_rule}
use Rattle.ir_parse_operands.proofs.values.stepping_at.Goals as goal

pub each-smaller : goal.each-smaller
each-smaller c = takes tokens (among tokens STEPPING) flag_rule.law _ _ _ c.in_ok-one.ensures

pub each-preserved : goal.each-preserved
each-preserved c = ap (λ (f : Bool). folded or_inbounds f (star_at (among tokens STEPPING) (one_of_at STEPPING is_inbounds) c.flag_at.new.tokens)) c.or_inbounds-inbounds.ensures ∙ folds_on tokens (among tokens STEPPING) flag_rule.law or_inbounds c.each.inbounds _ _ _ _ c.each-test.ensures c.in_ok-one.ensures c.each.invariant
