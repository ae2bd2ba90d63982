use Rattle.std.proofs.Common.{sym, ◌∙◌}
use Rattle.ir_parse_parts.proofs.Heads.{next_head}
use Rattle.ir_parse_globals.specs.InitialisersAt.{SHAPE}
use Rattle.ir_parse_globals.proofs.initialisers.comes_shape.Goals as goal

pub returns-in-Some : goal.returns-in-Some
returns-in-Some c = c.begins_shape.ensures ∙ sym (next_head SHAPE c.args.rest.now c.in-Some.head c.in-Some.ensures)
