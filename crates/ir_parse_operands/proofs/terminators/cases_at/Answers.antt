use Rattle.std.proofs.Common.{List, ap, ◌∙◌}
use Rattle.ir_parse_parts.specs.Alphabet.{among}
use Rattle.ir_parse_parts.specs.Readers.{folded}
use Rattle.ir_parse_parts.proofs.Stars.{behind, collected, takes, folds_on}
use Rattle.ir_parse_parts.specs.Classes.{tokens}
use Rattle.ir_parse_parts.specs.declared.raw.Case.{Case}
use Rattle.ir_parse_parts.specs.Operands.{REG}
use Rattle.ir_parse_operands.specs.TerminatorsAt.{cases_at}
use Rattle.ir_parse_operands.proofs.TerminatorRules.{case_rule}
use Rattle.ir_parse_operands.proofs.terminators.cases_at.Goals as goal

pub each-init : goal.each-init
each-init c = ap (λ (x : List Case). folded behind x (cases_at c.args.tokens.now)) c.new-cases.ensures.items ∙ collected (cases_at c.args.tokens.now)

pub each-smaller : goal.each-smaller
each-smaller c = takes tokens (among tokens REG) case_rule.law _ _ _ c.in_ok-case.ensures

pub each-preserved : goal.each-preserved
each-preserved c = ap (λ (x : List Case). folded behind x (cases_at c.case_at.new.tokens)) c.in_ok-push.ensures.items ∙ folds_on tokens (among tokens REG) case_rule.law behind c.each.cases.items _ _ _ _ c.each-test.ensures c.in_ok-case.ensures c.each.invariant
