use Rattle.std.proofs.Common.{Ok, sym, ap, ◌∙◌}
use Rattle.ir_parse_parts.specs.declared.raw.Terminator.{Terminator}
use Rattle.ir_parse_operands.proofs.Levels.{gives_as}
use Rattle.ir_parse_operands.proofs.TerminatorReadings.{chooses, jumps}
use Rattle.ir_parse_operands.proofs.terminators.branching_into.Goals as goal

pub returns-in_ok-to : goal.returns-in_ok-to
returns-in_ok-to c =
    jumps c.args.tokens.now c.target_at.new.tokens c.in_ok-to.to (sym c.comes.ensures ∙ c.if-comes.true) c.in_ok-to.ensures
    ∙ ap (λ (t : Terminator). Ok (t, c.target_at.new.tokens)) (sym c.put.ensures)

pub returns-else-comes : goal.returns-else-comes
returns-else-comes c = gives_as _ _ _ _ (sym (chooses c.args.tokens.now (sym c.comes.ensures ∙ c.if-comes.false))) c.choosing_into.ensures
