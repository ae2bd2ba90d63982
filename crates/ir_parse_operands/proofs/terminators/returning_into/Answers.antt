use Rattle.std.proofs.Common.{Option, Ok, sym, ap, ◌∙◌}
use Rattle.ir_tree.specs.declared.operand.Reg.{Reg}
use Rattle.ir_parse_parts.specs.declared.raw.Terminator.{Terminator}
use Rattle.ir_parse_operands.proofs.TerminatorReadings.{returns_nothing, returns_operand}
use Rattle.ir_parse_operands.proofs.terminators.returning_into.Goals as goal

pub returns-in_ok-operand-in-Some : goal.returns-in_ok-operand-in-Some
returns-in_ok-operand-in-Some c =
    returns_operand c.args.tokens.now c.result_at.new.tokens c.operand_at.new.tokens c.in-Some.reg c.in_ok-operand-in-Some.operand (c.in_ok-result_at.ensures.exact ∙ ap (λ (r : Option Reg). Ok (r, c.result_at.new.tokens)) c.in-Some.is) c.in_ok-operand-in-Some.ensures
    ∙ ap (λ (t : Terminator). Ok (t, c.operand_at.new.tokens)) (sym c.put-in-Some.ensures)

pub returns-in-None : goal.returns-in-None
returns-in-None c =
    returns_nothing c.args.tokens.now c.result_at.new.tokens (c.in_ok-result_at.ensures.exact ∙ ap (λ (r : Option Reg). Ok (r, c.result_at.new.tokens)) c.in-None.is)
    ∙ ap (λ (t : Terminator). Ok (t, c.result_at.new.tokens)) (sym c.put.ensures)
