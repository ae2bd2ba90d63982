use Rattle.std.proofs.Common.{◌≡◌, length}
use Rattle.ir_parse_parts.specs.Alphabet.{among}
use Rattle.ir_parse_parts.specs.Readers.{star_at, folded}
use Rattle.ir_parse_parts.specs.Ahead.{WRAPS}
use Rattle.ir_parse_parts.specs.Classes.{tokens, one_of_at}
use Rattle.ir_parse_bodies.specs.Instructions.{is_nuw, with_wrap, no_flags}
use Rattle.ir_parse_bodies.proofs.instructions.wraps_at.Given as goal

abbrev pub invariant-each : goal.invariant-each
invariant-each l = folded with_wrap l.flags (star_at (among tokens WRAPS) (one_of_at WRAPS is_nuw) l.tokens) ≡ folded with_wrap no_flags (star_at (among tokens WRAPS) (one_of_at WRAPS is_nuw) l.fn.tokens)

abbrev pub decreases-each : goal.decreases-each
decreases-each l = length l.tokens
