use Rattle.std.proofs.Common.{◌≡◌, ◌-◌, ◌≤◌, drop, length}
use Rattle.ir_lex.specs.Quotes.{has_backslash}
use Rattle.ir_lex.proofs.quotes.has_backslash.Given as goal

abbrev pub invariant-each : goal.invariant-each
invariant-each l = record { so_far : has_backslash l.bytes ≡ has_backslash (drop l.at l.bytes); within : l.at ≤ length l.bytes }

abbrev pub decreases-each : goal.decreases-each
decreases-each l = length l.bytes - l.at
