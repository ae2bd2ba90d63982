use Rattle.std.proofs.Common.{◌≡◌, length, false}
use Rattle.ir_parse_parts.specs.Alphabet.{among}
use Rattle.ir_parse_parts.specs.Readers.{star_at, folded}
use Rattle.ir_parse_parts.specs.Ahead.{STEPPING}
use Rattle.ir_parse_parts.specs.Classes.{tokens, one_of_at}
use Rattle.ir_parse_operands.specs.Values.{is_inbounds, or_inbounds}
use Rattle.ir_parse_operands.proofs.values.stepping_at.Given as goal

abbrev pub invariant-each : goal.invariant-each
invariant-each l = folded or_inbounds l.inbounds (star_at (among tokens STEPPING) (one_of_at STEPPING is_inbounds) l.tokens) ≡ folded or_inbounds false (star_at (among tokens STEPPING) (one_of_at STEPPING is_inbounds) l.fn.tokens)

abbrev pub decreases-each : goal.decreases-each
decreases-each l = length l.tokens
