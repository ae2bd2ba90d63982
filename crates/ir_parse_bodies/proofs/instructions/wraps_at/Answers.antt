use Rattle.std.proofs.Common.{ap, ◌∙◌}
use Rattle.ir_parse_parts.specs.Alphabet.{among}
use Rattle.ir_parse_parts.specs.Readers.{star_at, folded}
use Rattle.ir_parse_parts.proofs.Stars.{takes, folds_on}
use Rattle.ir_tree.specs.declared.instr.Flags.{Flags}
use Rattle.ir_parse_parts.specs.Ahead.{WRAPS}
use Rattle.ir_parse_parts.specs.Classes.{tokens, one_of_at}
use Rattle.ir_parse_bodies.specs.Instructions.{is_nuw, with_wrap}
use Rattle.ir_parse_bodies.proofs.InstructionRules.{wrap_rule}
use Rattle.ir_parse_bodies.proofs.instructions.wraps_at.Goals as goal

pub each-smaller : goal.each-smaller
each-smaller c = takes tokens (among tokens WRAPS) wrap_rule.law _ _ _ c.in_ok-nuw.ensures

pub each-preserved : goal.each-preserved
each-preserved c = ap (λ (f : Flags). folded with_wrap f (star_at (among tokens WRAPS) (one_of_at WRAPS is_nuw) c.wrap_at.new.tokens)) c.with_wrap-flags.ensures ∙ folds_on tokens (among tokens WRAPS) wrap_rule.law with_wrap c.each.flags _ _ _ _ c.each-test.ensures c.in_ok-nuw.ensures c.each.invariant
