use Rattle.std.proofs.Common.{ℕ, Err, ap, sym, ◌∙◌}
use Rattle.ir_lex.specs.Tok.{tok}
use Rattle.ir_parse_parts.specs.Ahead.{WRAPS}
use Rattle.ir_parse_parts.specs.Classes.{tokens, refusal}
use Rattle.ir_parse_parts.specs.Rules.{is_among}
use Rattle.ir_parse_operands.proofs.TakenTokens.{token_refused}
use Rattle.ir_parse_bodies.specs.Instructions.{is_nuw}
use Rattle.ir_parse_bodies.proofs.OtherKinds.{not_among, not_wrap}
use Rattle.ir_parse_bodies.proofs.instructions.wrap_at.Goals as goal

pub returns-in_default : goal.returns-in_default
returns-in_default c =
    token_refused (is_among tokens refusal WRAPS is_nuw) c.args.tokens.now c.take.new.self (tok c.in-Some.t) c.refusal.result c.in-Some.ensures
    (not_among refusal WRAPS (tok c.in-Some.t) (not_wrap c.in-Some.t.kind c.in_default.not-Nuw c.in_default.not-Nsw) is_nuw ∙ ap Err (sym c.refusal.ensures))
    ∙ ap (λ (n : ℕ). Err (record { left = n; kind = c.refusal.result })) (sym c.left-left.ensures)
