use Rattle.std.proofs.Common.{sym, ◌∙◌}
use Rattle.ir_parse_heads.specs.AttributesAt.{GROUPED}
use Rattle.ir_parse_parts.proofs.Heads.{next_head}
use Rattle.ir_parse_heads.proofs.attributes.comes_grouped.Goals as goal

pub returns-in-Some : goal.returns-in-Some
returns-in-Some c = c.begins_grouped.ensures ∙ sym (next_head GROUPED c.args.rest.now c.in-Some.head c.in-Some.ensures)
