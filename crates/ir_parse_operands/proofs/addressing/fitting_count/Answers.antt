use Rattle.std.proofs.Common.{cond, Bool, Some, None, Ok, Err, sym, ap, ◌∙◌}
use Rattle.ir_lex.specs.Tok.{tok}
use Rattle.ir_parse_parts.specs.declared.fault.TokenFault.TheVariants.{Limit}
use Rattle.ir_parse_operands.specs.Addressing.{slots_fit}
use Rattle.ir_parse_operands.proofs.Counts.{count_is}
use Rattle.ir_parse_operands.proofs.addressing.fitting_count.Goals as goal

pub returns-then-slots_fit : goal.returns-then-slots_fit
returns-then-slots_fit c =
    sym (count_is (slots_fit c.args.shape.now.typed.shape) c.args.width (tok c.args.t.now) (Some c.in-Some.count) c.requires.number c.requires.ranged.positive (sym c.counted.ensures ∙ c.in-Some.is)
    ∙ ap (λ (b : Bool). cond b (Ok c.in-Some.count) (Err Limit)) (sym c.slots_fit.ensures ∙ c.if-slots_fit.true))

pub returns-else-slots_fit : goal.returns-else-slots_fit
returns-else-slots_fit c =
    sym (count_is (slots_fit c.args.shape.now.typed.shape) c.args.width (tok c.args.t.now) (Some c.in-Some.count) c.requires.number c.requires.ranged.positive (sym c.counted.ensures ∙ c.in-Some.is)
    ∙ ap (λ (b : Bool). cond b (Ok c.in-Some.count) (Err Limit)) (sym c.slots_fit.ensures ∙ c.if-slots_fit.false))

pub returns-in-None : goal.returns-in-None
returns-in-None c = sym (count_is (slots_fit c.args.shape.now.typed.shape) c.args.width (tok c.args.t.now) None c.requires.number c.requires.ranged.positive (sym c.counted.ensures ∙ c.in-None.is))
