use Rattle.std.proofs.Common.{refl, sym, ◌∙◌}
use Rattle.ir_parse_parts.specs.Alphabet.{among}
use Rattle.ir_parse_parts.specs.Classes.{tokens}
use Rattle.ir_parse_operands.specs.ValuesAt.{ADDRESS, address_at}
use Rattle.ir_parse_bodies.specs.CallsAt.{unmarked_at}
use Rattle.ir_parse_bodies.specs.CallsAt.{unmarked_value_at}
use Rattle.ir_parse_bodies.proofs.Successions.{reads_behind}
use Rattle.ir_parse_operands.proofs.Choices.{passes_over, picks}
use Rattle.ir_parse_operands.proofs.Levels.{given}
use Rattle.ir_parse_bodies.proofs.calls.unmarked_value_at.Goals as goal

pub returns-in_ok-value : goal.returns-in_ok-value
unfolding unmarked_value_at
returns-in_ok-value c = given _ _ _ _ c.done.ensures (reads_behind (picks (among tokens ADDRESS) address_at unmarked_at c.args.tokens.now (sym c.if-comes.ensures) ∙ c.in_ok-value.ensures) _ refl)

pub returns-in_ok-value-2 : goal.returns-in_ok-value-2
unfolding unmarked_value_at
returns-in_ok-value-2 c = given _ _ _ _ c.done-else-comes.ensures (reads_behind (passes_over (among tokens ADDRESS) address_at unmarked_at c.args.tokens.now (sym c.if-comes.ensures) ∙ c.in_ok-value-2.ensures) _ refl)
