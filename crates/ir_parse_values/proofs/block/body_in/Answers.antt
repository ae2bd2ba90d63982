use Rattle.std.proofs.Common.{◌∙◌, sym, refl}
use Rattle.ir_parse_names.specs.Bodies.{instr_in}
use Rattle.ir_parse_values.proofs.Bodies.{continues}
use Rattle.ir_parse_values.proofs.block.body_in.Goals as goal

pub each-preserved : goal.each-preserved
each-preserved c =
    sym (continues c.args.types.now c.args.locals.now c.each.body c.line_into.new.body c.each.next c.in_ok-next.next c.args.lines.now c.each.line-index c.line-item.result (instr_in c.args.types.now c.args.locals.now c.line-item.result.instr) c.each-test.true c.line-item.is refl c.in_ok-line_into.ensures c.in_ok-next.ensures)
    ∙ c.each.invariant
