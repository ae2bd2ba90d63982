use Rattle.ir_parse_parts.specs.Alphabet.{among}
use Rattle.ir_parse_parts.specs.Readers.{dropped}
use Rattle.ir_parse_parts.proofs.Stars.{takes, folds_on}
use Rattle.ir_parse_parts.specs.Classes.{tokens}
use Rattle.ir_parse_parts.specs.MetadataAt.{COMMA}
use Rattle.ir_parse_parts.proofs.Nodes.{attachment_rule}
use Rattle.ir_parse_parts.proofs.metadata.attachments_at.Goals as goal

pub each-smaller : goal.each-smaller
each-smaller c = takes tokens (among tokens COMMA) attachment_rule.law _ _ _ c.in_ok-attachment_at.ensures

pub each-preserved : goal.each-preserved
each-preserved c = folds_on tokens (among tokens COMMA) attachment_rule.law dropped tt _ _ _ _ c.each-test.ensures c.in_ok-attachment_at.ensures c.each.invariant
