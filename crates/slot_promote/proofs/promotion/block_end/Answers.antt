use Rattle.std.proofs.Common.{◌≡◌, ◌∙◌, ℕ, List, ap}
use Rattle.ir_tree.specs.declared.instr.Line.{Line}
use Rattle.ir_meaning.specs.Promote.{Current}
use Rattle.slot_promote.specs.Tables.{current, place_in}
use Rattle.slot_promote.specs.Values.{at_start, behind_lines}
use Rattle.slot_promote.proofs.promotion.block_end.Goals as goal

pub returns : goal.returns
returns c = λ i. record { number = c.args.block.now.number; values = λ x. values x i }
  where
    values : (x : ℕ) → current (place_in c.args.slots.now) c.pass_all.new.self x ≡ behind_lines (place_in c.args.slots.now) (at_start (place_in c.args.slots.now) c.args.first) c.args.block.now.lines x
    values x =
        c.in_ok-pass_all.ensures x ∙ ap (λ (cur : Current). behind_lines (place_in c.args.slots.now) cur c.as_slice.result.now x) (λ j. λ y. c.new-values.ensures (place_in c.args.slots.now) y j)
        ∙ ap (λ (ls : List Line). behind_lines (place_in c.args.slots.now) (at_start (place_in c.args.slots.now) c.args.first) ls x) c.as_slice.ensures
