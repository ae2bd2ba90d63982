use Rattle.std.proofs.Common.{List, Ok, ap, sym, ◌∙◌}
use Rattle.ir_parse_parts.specs.declared.raw.Block.{Block}
use Rattle.ir_parse_bodies.specs.Adding.{joined_at}
use Rattle.ir_parse_bodies.specs.BlocksAt.{braced_at}
use Rattle.ir_parse_bodies.proofs.definitions.rows_at.Goals as goal

pub returns : goal.returns
returns c = ap (λ (front : List Block). joined_at front braced_at c.args.tokens.now) (sym c.new-blocks.ensures) ∙ c.in_ok-braced_into.ensures ∙ ap (λ (all : List Block). Ok (all, c.braced_into.new.tokens)) (sym c.rows.ensures)
