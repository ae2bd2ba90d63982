use Rattle.std.proofs.Common.{Bool, subst}
use Rattle.ir_lex.specs.Tok.{toks}
use Rattle.ir_lex.specs.Lexing.{IsLexed}
use Rattle.ir_lex.proofs.Unique.{same_list, not_both, same_fault}
use Rattle.ir_lex.proofs.lexer.tokens.Goals as goal

pub returns-then-lexed-clause-only : goal.returns-then-lexed-clause-only
returns-then-lexed-clause-only c = λ ts h. same_list c.args.bytes.now (toks c.in_ok-lexed.lexed.tokens.items) ts (c.in_ok-lexed.lexed.line, subst (λ (b : Bool). IsLexed c.args.bytes.now (toks c.in_ok-lexed.lexed.tokens.items) b c.in_ok-lexed.lexed.line) c.if-lexed.true c.in_ok-lexed.ensures) h

pub returns-then-lexed-clause-bad : goal.returns-then-lexed-clause-bad
returns-then-lexed-clause-bad c = λ ts line h. not_both c.args.bytes.now (toks c.in_ok-lexed.lexed.tokens.items) ts line (c.in_ok-lexed.lexed.line, subst (λ (b : Bool). IsLexed c.args.bytes.now (toks c.in_ok-lexed.lexed.tokens.items) b c.in_ok-lexed.lexed.line) c.if-lexed.true c.in_ok-lexed.ensures) h

pub returns-clause-only : goal.returns-clause-only
returns-clause-only c = λ ts h. not_both c.args.bytes.now ts (toks c.in_ok-lexed.lexed.tokens.items) c.in_ok-lexed.lexed.line h (subst (λ (b : Bool). IsLexed c.args.bytes.now (toks c.in_ok-lexed.lexed.tokens.items) b c.in_ok-lexed.lexed.line) c.if-lexed.false c.in_ok-lexed.ensures)

pub returns-clause-bad : goal.returns-clause-bad
returns-clause-bad c = λ ts line h. (same_fault c.args.bytes.now (toks c.in_ok-lexed.lexed.tokens.items) ts c.in_ok-lexed.lexed.line line (subst (λ (b : Bool). IsLexed c.args.bytes.now (toks c.in_ok-lexed.lexed.tokens.items) b c.in_ok-lexed.lexed.line) c.if-lexed.false c.in_ok-lexed.ensures) h).1
