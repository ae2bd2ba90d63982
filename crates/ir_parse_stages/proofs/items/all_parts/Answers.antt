use Rattle.std.proofs.Common.{refl}
use Rattle.ir_parse_names.specs.Marks.{all, part_marks}
use Rattle.ir_parse_stages.proofs.Gathering.{goes_on}
use Rattle.ir_parse_stages.proofs.items.all_parts.Goals as goal

pub each-preserved : goal.each-preserved
each-preserved c = goes_on part_marks (all part_marks) (λ y ys. refl) c.args.parts.now c.each.part-index c.part-item.result _ _ _ c.each-test.true c.part-item.is c.each.invariant c.in_ok-part_marks.ensures
