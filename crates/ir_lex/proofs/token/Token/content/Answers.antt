use Rattle.std.proofs.Common.{sym}
use Rattle.ir_lex.proofs.Escapes.{content_plain}
use Rattle.ir_lex.proofs.token.Token.content.Goals as goal

pub returns-else-has_backslash-clause-value : goal.returns-else-has_backslash-clause-value
returns-else-has_backslash-clause-value c = content_plain _ _ c.stripped-bare.result.now c.in-Some.quoted.now c.stripped-bare.ensures c.in-Some.ensures (sym c.if-has_backslash.ensures)
