use Rattle.std.proofs.Common.{◌∙◌}
use Rattle.ir_parse_parts.specs.Readers.{done, ◌>>=◌}
use Rattle.ir_parse_operands.specs.AddressingAt.{indices_at, steps_at}
use Rattle.ir_parse_operands.specs.ValuesAt.{pointed_at}
use Rattle.ir_parse_operands.proofs.Choices.{goes_on}
use Rattle.ir_parse_operands.proofs.Levels.{given}
use Rattle.ir_parse_operands.proofs.addressing.steps_at.Goals as goal

pub returns : goal.returns
unfolding steps_at
returns c =
    given _ _ _ _ c.done.ensures
    (goes_on (λ base. indices_at >>= λ is. done (base, is)) (pointed_at c.args.tokens.now) c.in_ok-base.base c.pointed_at.new.tokens c.in_ok-base.ensures
    ∙ goes_on (λ is. done (c.in_ok-base.base, is)) (indices_at c.pointed_at.new.tokens) c.in_ok-indices.indices.items c.indices_at.new.tokens c.in_ok-indices.ensures)
