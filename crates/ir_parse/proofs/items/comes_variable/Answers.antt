use Rattle.std.proofs.Common.{sym, ◌∙◌}
use Rattle.ir_parse_globals.specs.Variables.{NAMES}
use Rattle.ir_parse_parts.proofs.Heads.{next_head}
use Rattle.ir_parse.proofs.items.comes_variable.Goals as goal

pub returns-in-Some : goal.returns-in-Some
returns-in-Some c = c.begins_variable.ensures ∙ sym (next_head NAMES c.args.rest.now c.in-Some.head c.in-Some.ensures)
