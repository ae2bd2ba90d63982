use Rattle.std.proofs.Common.{sym, ◌∙◌}
use Rattle.ir_parse_parts.proofs.Heads.{next_head}
use Rattle.ir_parse_heads.specs.FunctionHeads.{LINKAGES}
use Rattle.ir_parse_globals.proofs.variables.comes_linkage.Goals as goal

pub returns-in-Some : goal.returns-in-Some
returns-in-Some c = c.is_linkage.ensures ∙ sym (next_head LINKAGES c.args.rest.now c.in-Some.head c.in-Some.ensures)
