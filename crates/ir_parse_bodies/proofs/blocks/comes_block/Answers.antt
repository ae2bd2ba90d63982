use Rattle.std.proofs.Common.{sym, ◌∙◌}
use Rattle.ir_parse_parts.proofs.Heads.{next_head}
use Rattle.ir_parse_bodies.specs.BlocksAt.{BLOCK}
use Rattle.ir_parse_bodies.proofs.blocks.comes_block.Goals as goal

pub returns-in-Some : goal.returns-in-Some
returns-in-Some c = c.begins_block.ensures ∙ sym (next_head BLOCK c.args.rest.now c.in-Some.head c.in-Some.ensures)
