use Rattle.std.proofs.Common.{List, sym, ap, ◌∙◌}
use Rattle.ir_lex.specs.Tok.{Tok}
use Rattle.ir_parse_parts.specs.Alphabet.{among}
use Rattle.ir_parse_parts.specs.Readers.{folded, star_at}
use Rattle.ir_parse_parts.proofs.Stars.{behind, takes, folds_fail, folds_on, folds_none}
use Rattle.ir_parse_parts.specs.Classes.{tokens}
use Rattle.ir_parse_parts.specs.MetadataAt.{COMMA}
use Rattle.ir_parse_operands.proofs.Levels.{first_and_others}
use Rattle.ir_parse_bodies.specs.CallsAt.{further_type_at, types_behind_at}
use Rattle.ir_parse_bodies.proofs.CallRules.{further_type_rule}
use Rattle.ir_parse_bodies.proofs.Successions.{passed_on}
use Rattle.ir_parse_bodies.proofs.calls.types_behind_at.Goals as goal

pub each-smaller : goal.each-smaller
each-smaller c = takes tokens (among tokens COMMA) further_type_rule.law _ _ _ c.in_ok-further.ensures

pub each-preserved : goal.each-preserved
each-preserved c = ap (λ (x : List Tok). folded behind x (star_at (among tokens COMMA) further_type_at c.further_type_at.new.tokens)) c.in_ok-push-2.ensures.items ∙ folds_on tokens (among tokens COMMA) further_type_rule.law behind c.each.types.items _ _ _ _ c.each-test.ensures c.in_ok-further.ensures c.each.invariant

pub returns : goal.returns
unfolding types_behind_at
returns c = sym (first_and_others c.args.first (star_at (among tokens COMMA) further_type_at c.args.tokens.now)) ∙ folds_none tokens (among tokens COMMA) further_type_rule.law behind c.each.types.items _ _ c.each-test.ensures c.each.invariant

pub returns-in_err-further : goal.returns-in_err-further
unfolding types_behind_at
returns-in_err-further c =
    passed_on _ _ _ _ c.from_residual-in_err-further.ensures
    (folds_fail tokens (among tokens COMMA) further_type_rule.law behind c.in_err-further.field-0.0 c.each.types.items c.each.tokens _ c.each-test.ensures c.in_err-further.ensures
    (c.each.invariant ∙ first_and_others c.args.first (star_at (among tokens COMMA) further_type_at c.args.tokens.now)))
