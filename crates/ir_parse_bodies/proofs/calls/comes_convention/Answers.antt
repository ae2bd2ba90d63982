use Rattle.std.proofs.Common.{sym, ◌∙◌}
use Rattle.ir_parse_parts.proofs.Heads.{next_head}
use Rattle.ir_parse_bodies.specs.CallsAt.{CONVENTIONS}
use Rattle.ir_parse_bodies.proofs.OtherKinds.{not_convention}
use Rattle.ir_parse_bodies.proofs.calls.comes_convention.Goals as goal

pub returns-in_default : goal.returns-in_default
returns-in_default c = sym (next_head CONVENTIONS c.args.rest.now c.in-Some.head c.in-Some.ensures ∙ not_convention c.in-Some.head c.in_default.not-CallingConvention c.in_default.not-Align c.in_default.not-ParameterWord c.in_default.not-ParameterGroup)
