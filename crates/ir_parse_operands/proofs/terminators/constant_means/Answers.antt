use Rattle.std.proofs.Common.{Err, ap, sym, ◌∙◌}
use Rattle.ir_lex.specs.Tok.{tok}
use Rattle.ir_parse_operands.proofs.RefusedKinds.{no_case, not_case}
use Rattle.ir_parse_operands.proofs.terminators.constant_means.Goals as goal

pub returns-in_default : goal.returns-in_default
returns-in_default c = ap Err c.refusal.ensures ∙ sym (no_case c.args.reg (tok c.args.t.now) (not_case c.args.reg c.args.t.now.kind c.in_default.not-Number c.in_default.not-True c.in_default.not-False))
