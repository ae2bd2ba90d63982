use Rattle.std.proofs.Common.{◌+◌, ◌≤◌, length}
use Rattle.ir_lex.specs.Tok.{toks}
use Rattle.ir_lex.specs.Lexing.{Stands}
use Rattle.ir_lex.specs.Rows.{LabelFree}
use Rattle.ir_lex.proofs.lexer.lex.Given as goal

abbrev pub invariant-each : goal.invariant-each
invariant-each l = record { so_far : Stands l.bytes (toks l.tokens.items) l.line l.rest; lines : l.line + length l.rest ≤ 1 + length l.bytes; free : LabelFree l.free l.rest }

abbrev pub decreases-each : goal.decreases-each
decreases-each l = length l.rest
