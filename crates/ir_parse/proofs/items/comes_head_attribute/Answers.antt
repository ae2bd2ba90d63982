use Rattle.std.proofs.Common.{sym, ◌∙◌}
use Rattle.ir_parse_heads.specs.AttributesAt.{HEAD}
use Rattle.ir_parse_parts.proofs.Heads.{next_head}
use Rattle.ir_parse.proofs.items.comes_head_attribute.Goals as goal

pub returns-in-Some : goal.returns-in-Some
returns-in-Some c = c.begins_head_attribute.ensures ∙ sym (next_head HEAD c.args.rest.now c.in-Some.head c.in-Some.ensures)
