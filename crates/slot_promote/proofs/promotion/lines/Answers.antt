use Rattle.std.proofs.Common.{◌∙◌, List, ap}
use Rattle.ir_tree.specs.declared.instr.Line.{Line}
use Rattle.ir_meaning.specs.Promote.{Current}
use Rattle.slot_promote.specs.Tables.{place_in}
use Rattle.slot_promote.specs.Values.{at_start, without_slots}
use Rattle.slot_promote.proofs.promotion.lines.Goals as goal

pub returns : goal.returns
returns c =
    c.in_ok-lines.ensures ∙ ap (λ (cur : Current). without_slots (place_in c.args.slots.now) cur c.as_slice.result.now) (λ j. λ y. c.new-start.ensures (place_in c.args.slots.now) y j)
    ∙ ap (λ (ls : List Line). without_slots (place_in c.args.slots.now) (at_start (place_in c.args.slots.now) c.args.first) ls) c.as_slice.ensures
