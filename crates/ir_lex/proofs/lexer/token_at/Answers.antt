use Rattle.std.proofs.Common.{◌≤◌, length, sym, subst}
use Rattle.ir_lex.specs.declared.rows.Fit.{Fit}
use Rattle.ir_lex.proofs.Lengths.{best_fit_le}
use Rattle.ir_lex.proofs.lexer.token_at.Goals as goal

pub split_at-requires : goal.split_at-requires
split_at-requires c = subst (λ (f : Fit). f.len ≤ length c.args.bytes.now) (sym c.best_fit-fit.ensures) (best_fit_le c.args.bytes.now)
