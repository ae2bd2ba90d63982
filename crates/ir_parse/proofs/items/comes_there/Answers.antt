use Rattle.std.proofs.Common.{sym, ◌∙◌}
use Rattle.ir_parse.specs.ItemFormsAt.{beginnings}
use Rattle.ir_parse_parts.proofs.Heads.{next_head}
use Rattle.ir_parse.proofs.items.comes_there.Goals as goal

pub returns-in-Some : goal.returns-in-Some
returns-in-Some c = c.begins_there.ensures ∙ sym (next_head (beginnings c.args.before) c.args.rest.now c.in-Some.head c.in-Some.ensures)
