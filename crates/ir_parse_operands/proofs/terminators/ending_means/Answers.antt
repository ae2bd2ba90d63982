use Rattle.std.proofs.Common.{Err, ap, sym, ◌∙◌}
use Rattle.ir_lex.specs.Tok.{tok}
use Rattle.ir_parse_operands.proofs.RefusedKinds.{no_end, not_end}
use Rattle.ir_parse_operands.proofs.terminators.ending_means.Goals as goal

pub returns-in_default : goal.returns-in_default
returns-in_default c = ap Err c.refusal.ensures ∙ sym (no_end (tok c.args.t.now) (not_end c.args.t.now.kind c.in_default.not-Ret c.in_default.not-Br c.in_default.not-Switch c.in_default.not-Unreachable))
