use Rattle.std.proofs.Common.{◌≡◌, drop}
use Rattle.ir_parse_parts.proofs.Loops.{with_front}
use Rattle.ir_parse_bodies.specs.Adding.{joined_at}
use Rattle.ir_parse_bodies.specs.CallsAt.{each_further_at, some_of_at}
use Rattle.ir_parse_bodies.proofs.calls.some_of_into.Given as goal

abbrev pub invariant-each : goal.invariant-each
invariant-each l = with_front l.arguments.items (each_further_at (drop l.written-index l.further) l.tokens) ≡ joined_at l.fn.arguments.items (some_of_at l.fn.first l.fn.further) l.fn.tokens
