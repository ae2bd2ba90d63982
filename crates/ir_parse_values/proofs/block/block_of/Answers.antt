use Rattle.std.proofs.Common.{ℕ, ap, ◌∙◌}
use Rattle.ir_parse_values.specs.Blocks.{block_of, body_in}
use Rattle.ir_parse_values.proofs.Bodies.{or_else}
use Rattle.ir_parse_values.proofs.Following.{follows}
use Rattle.ir_parse_values.proofs.block.block_of.Goals as goal

pub returns : goal.returns
unfolding block_of
returns c =
    follows _ (ap (λ (n : ℕ). body_in c.args.types.now c.args.locals.now n c.args.lines.now) (ap (or_else c.args.number) c.in_ok-first.ensures) ∙ c.in_ok-body.ensures) ∙ follows _ c.in_ok-end.ensures
