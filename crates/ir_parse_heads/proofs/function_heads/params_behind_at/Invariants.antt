use Rattle.std.proofs.Common.{◌≡◌}
use Rattle.ir_parse_parts.specs.Alphabet.{among}
use Rattle.ir_parse_parts.specs.Readers.{many_at}
use Rattle.ir_parse_parts.proofs.Loops.{with_front}
use Rattle.ir_parse_parts.specs.Classes.{tokens}
use Rattle.ir_parse_heads.specs.FunctionHeadsAt.{further_param_at}
use Rattle.ir_parse_parts.specs.MetadataAt.{COMMA}
use Rattle.ir_parse_heads.proofs.function_heads.params_behind_at.Given as goal

abbrev pub invariant-each : goal.invariant-each
invariant-each l = with_front l.params.items (many_at (among tokens COMMA) further_param_at l.left l.tokens) ≡ with_front l.fn.front.items (many_at (among tokens COMMA) further_param_at l.fn.room l.fn.tokens)

abbrev pub decreases-each : goal.decreases-each
decreases-each l = l.left
