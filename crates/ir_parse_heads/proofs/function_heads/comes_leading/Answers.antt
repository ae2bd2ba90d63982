use Rattle.std.proofs.Common.{sym, ◌∙◌}
use Rattle.ir_parse_heads.specs.FunctionHeadsAt.{LEADING}
use Rattle.ir_parse_parts.proofs.Heads.{next_head}
use Rattle.ir_parse_heads.proofs.function_heads.comes_leading.Goals as goal

pub returns-in-Some : goal.returns-in-Some
returns-in-Some c = c.begins_leading.ensures ∙ sym (next_head (LEADING c.args.role c.args.linked) c.args.rest.now c.in-Some.head c.in-Some.ensures)
