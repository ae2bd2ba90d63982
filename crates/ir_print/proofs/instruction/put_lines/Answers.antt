use Rattle.std.proofs.Common.{refl}
use Rattle.ir_tree.specs.declared.instr.Line.{Line}
use Rattle.ir_print.specs.Instructions as instructions
use Rattle.ir_print.proofs.Written.{each_on, all_on}
use Rattle.ir_print.proofs.instruction.put_lines.Goals as goal

pub each-preserved : goal.each-preserved
each-preserved c = each_on (λ (l : Line). instructions.line_of l.local l.instr) instructions.lines (λ y ys. refl) c.args.list.now c.each.l-index c.l-item.result _ c.each-test.true c.l-item.is _ _ _ c.each.invariant c.in_ok-line.ensures

pub returns : goal.returns
returns c = all_on instructions.lines refl c.args.list.now c.each.l-index c.each-test.false _ _ _ c.each.invariant
