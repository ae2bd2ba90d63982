use Rattle.std.proofs.Common.{sym, ◌∙◌}
use Rattle.ir_parse_heads.specs.FunctionHeads.{linkages_of}
use Rattle.ir_parse_parts.proofs.Heads.{next_head}
use Rattle.ir_parse_heads.proofs.function_heads.comes_linkage.Goals as goal

pub returns-in-Some : goal.returns-in-Some
returns-in-Some c = c.is_linkage_of.ensures ∙ sym (next_head (linkages_of c.args.role) c.args.rest.now c.in-Some.head c.in-Some.ensures)
