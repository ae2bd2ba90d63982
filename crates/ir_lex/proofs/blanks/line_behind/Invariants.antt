use Rattle.std.proofs.Common.{◌≡◌, ◌+◌, ◌≤◌, drop}
use Rattle.ir_lex.specs.Blanks.{line_behind}
use Rattle.ir_lex.proofs.blanks.line_behind.Given as goal

abbrev pub invariant-each : goal.invariant-each
invariant-each l = record { so_far : line_behind l.line l.bytes ≡ line_behind l.now (drop l.b-index l.bytes); lines : l.now ≤ l.line + l.b-index }
