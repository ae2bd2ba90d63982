use Rattle.std.proofs.Common.{sym, ◌∙◌}
use Rattle.ir_parse_heads.specs.AttributesAt.{DEFINITION}
use Rattle.ir_parse_parts.proofs.Heads.{next_head}
use Rattle.ir_parse_heads.proofs.attributes.comes_definition_attribute.Goals as goal

pub returns-in-Some : goal.returns-in-Some
returns-in-Some c = c.begins_definition_attribute.ensures ∙ sym (next_head DEFINITION c.args.rest.now c.in-Some.head c.in-Some.ensures)
