use Rattle.std.proofs.Common.{sym, ◌∙◌}
use Rattle.ir_parse_heads.specs.AttributesAt.{CALL}
use Rattle.ir_parse_parts.proofs.Heads.{next_head}
use Rattle.ir_parse_heads.proofs.attributes.comes_call_attribute.Goals as goal

pub returns-in-Some : goal.returns-in-Some
returns-in-Some c = c.begins_call_attribute.ensures ∙ sym (next_head CALL c.args.rest.now c.in-Some.head c.in-Some.ensures)
