use Rattle.std.proofs.Common.{ℕ, Option, None, sym, ap, ◌∙◌}
use Rattle.ir_parse_parts.specs.Alphabet.{among}
use Rattle.ir_parse_parts.specs.Readers.{star_at, folded}
use Rattle.ir_parse_parts.proofs.Stars.{takes, folds_on, folds_none, folded_is}
use Rattle.ir_parse_parts.specs.Classes.{tokens}
use Rattle.ir_parse_parts.specs.MetadataAt.{COMMA}
use Rattle.ir_parse_globals.specs.Variables.{with_align}
use Rattle.ir_parse_globals.specs.VariablesAt.{further_at, tail_at}
use Rattle.ir_parse_globals.proofs.VariableRules.{further_rule}
use Rattle.ir_parse_globals.proofs.variables.tail_at.Goals as goal

pub each-smaller : goal.each-smaller
each-smaller c = takes tokens (among tokens COMMA) further_rule.law _ _ _ c.in_ok-further.ensures

pub each-preserved : goal.each-preserved
each-preserved c = ap (λ (n : Option ℕ). folded with_align n (star_at (among tokens COMMA) further_at c.further_at.new.tokens)) c.with_align-align.ensures ∙ folds_on tokens (among tokens COMMA) further_rule.law with_align c.each.align _ _ _ _ c.each-test.ensures c.in_ok-further.ensures c.each.invariant

pub returns : goal.returns
unfolding tail_at
returns c = sym (folded_is with_align None (star_at (among tokens COMMA) further_at c.args.tokens.now)) ∙ folds_none tokens (among tokens COMMA) further_rule.law with_align c.each.align _ _ c.each-test.ensures c.each.invariant
