use Rattle.std.proofs.Common.{◌≡◌, length, reverse}
use Rattle.ir_parse_parts.specs.Chained.{chain_at}
use Rattle.ir_parse_parts.specs.Readers.{folded}
use Rattle.ir_parse_parts.proofs.Stars.{behind}
use Rattle.ir_parse_globals.specs.Initialisers.{outermost}
use Rattle.ir_parse_globals.specs.InitialisersAt.{begins_there, there_at, listed_at}
use Rattle.ir_parse_globals.proofs.initialisers.listed_at.Given as goal

abbrev pub invariant-each : goal.invariant-each
invariant-each l = folded behind l.parts.items (chain_at outermost begins_there there_at (l.first, reverse l.around.items) l.tokens) ≡ listed_at l.fn.tokens

abbrev pub decreases-each : goal.decreases-each
decreases-each l = length l.tokens
