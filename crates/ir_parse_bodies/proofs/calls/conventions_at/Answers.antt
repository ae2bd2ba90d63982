use Rattle.ir_parse_parts.specs.Alphabet.{among}
use Rattle.ir_parse_parts.specs.Readers.{dropped}
use Rattle.ir_parse_parts.proofs.Stars.{takes, folds_on}
use Rattle.ir_parse_parts.specs.Classes.{tokens}
use Rattle.ir_parse_bodies.specs.CallsAt.{CONVENTIONS}
use Rattle.ir_parse_bodies.proofs.CallRules.{convention_rule}
use Rattle.ir_parse_bodies.proofs.calls.conventions_at.Goals as goal

pub each-smaller : goal.each-smaller
each-smaller c = takes tokens (among tokens CONVENTIONS) convention_rule.law _ _ _ c.in_ok-convention_at.ensures

pub each-preserved : goal.each-preserved
each-preserved c = folds_on tokens (among tokens CONVENTIONS) convention_rule.law dropped tt _ _ _ _ c.each-test.ensures c.in_ok-convention_at.ensures c.each.invariant
