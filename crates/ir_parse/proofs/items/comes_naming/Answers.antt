use Rattle.std.proofs.Common.{sym, ◌∙◌}
use Rattle.ir_parse.specs.ItemFormsAt.{NAMING}
use Rattle.ir_parse_parts.proofs.Heads.{next_head}
use Rattle.ir_parse.proofs.items.comes_naming.Goals as goal

pub returns-in-Some : goal.returns-in-Some
returns-in-Some c = c.begins_naming.ensures ∙ sym (next_head NAMING c.args.rest.now c.in-Some.head c.in-Some.ensures)
