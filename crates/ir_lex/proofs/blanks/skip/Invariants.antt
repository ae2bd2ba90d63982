use Rattle.std.proofs.Common.{◌≡◌, ◌+◌, ◌-◌, ◌≤◌, drop, length, false}
use Rattle.ir_lex.specs.Blanks.{skip}
use Rattle.ir_lex.proofs.blanks.skip.Given as goal

abbrev pub invariant-each : goal.invariant-each
invariant-each l = record { so_far : skip false l.line l.bytes ≡ skip l.comment l.now (drop l.at l.bytes); within : l.at ≤ length l.bytes; lines : l.now ≤ l.line + l.at }

abbrev pub decreases-each : goal.decreases-each
decreases-each l = length l.bytes - l.at
