use Rattle.std.proofs.Common.{sym}
use Rattle.ir_parse_operands.proofs.RefusedKinds.{not_end}
use Rattle.ir_parse_bodies.proofs.blocks.begins_terminator.Goals as goal

pub returns-in_default : goal.returns-in_default
returns-in_default c = sym (not_end c.args.head c.in_default.not-Ret c.in_default.not-Br c.in_default.not-Switch c.in_default.not-Unreachable)
