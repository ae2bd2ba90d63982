use Rattle.std.proofs.Common.{refl}
use Rattle.ir_parse_names.specs.Marks.{item_marks, marks_of}
use Rattle.ir_parse_stages.proofs.Gathering.{goes_on}
use Rattle.ir_parse_stages.proofs.items.gather.Goals as goal

pub each-preserved : goal.each-preserved
each-preserved c = goes_on item_marks marks_of (λ y ys. refl) c.args.items.now c.each.item-index c.item-item.result _ _ _ c.each-test.true c.item-item.is c.each.invariant c.in_ok-item_marks.ensures
