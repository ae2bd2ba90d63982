use Rattle.std.proofs.Common.{Ok, sym, ap, ◌∙◌}
use Rattle.ir_parse_parts.specs.declared.address.Steps.{Steps}
use Rattle.ir_parse_parts.specs.declared.raw.Operand.TheVariants as operands
use Rattle.ir_parse_operands.specs.Values.{steps}
use Rattle.ir_parse_operands.proofs.Grouping.{address_reached}
use Rattle.ir_parse_operands.proofs.Levels.{given}
use Rattle.ir_parse_operands.proofs.values.address_at.Goals as goal

pub returns : goal.returns
returns c =
    given _ _ _ _ c.done.ensures
    (address_reached c.in_ok-outer.outer.items c.in_ok-name.name c.in_ok-levels.levels.items c.args.tokens.now c.all_openings_at.new.tokens c.global_at.new.tokens c.closing_at.new.tokens c.in_ok-outer.ensures c.in_ok-name.ensures c.in_ok-levels.ensures
    ∙ ap (λ (s : Steps). Ok (operands.Address s, c.closing_at.new.tokens)) (sym (c.in_ok-address.ensures ∙ ap (steps c.in_ok-name.name) c.of.ensures)))
