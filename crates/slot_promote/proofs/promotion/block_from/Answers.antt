use Rattle.std.proofs.Common.{◌++◌, ◌∙◌, List, ap}
use Rattle.ir_tree.specs.declared.instr.Phi.{Phi}
use Rattle.slot_promote.specs.Tables.{place_in}
use Rattle.slot_promote.specs.Values.{at_start, without_slots}
use Rattle.slot_promote.proofs.promotion.block_from.Goals as goal

pub returns : goal.returns
returns c =
    c.in_ok-made.ensures
    ∙ ap (λ (ps : List Phi). record c.args.old.now { phis = ps ++ c.args.old.now.phis; lines = without_slots (place_in c.args.slots.now) (at_start (place_in c.args.slots.now) c.args.first) c.args.old.now.lines }) c.in_ok-new.ensures
