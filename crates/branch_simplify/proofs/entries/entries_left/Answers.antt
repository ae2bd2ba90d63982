use Rattle.std.proofs.Common.{◌∙◌, ◌++◌, ◌∷◌, [], ap}
use Rattle.ir_tree.specs.declared.instr.Incoming.{Incoming}
use Rattle.branch_simplify.specs.Tables.{count_of}
use Rattle.branch_simplify.proofs.Loops.{counted_down, entry_goes, entry_stays, some_left}
use Rattle.branch_simplify.proofs.entries.entries_left.Goals as goal
use Rattle.branch_simplify.proofs.entries.entries_left.Goals.{then-at-others+in_ok-duplicate+in_ok-push, else-at-others}

pub overflow_sub-others : goal.overflow_sub-others
overflow_sub-others c =
    some_left c.args.entries.now c.loop-entry.entry-index c.entry-item.result c.loop-entry-test.true c.entry-item.is c.at-others.result (c.at-others.ensures ∙ c.loop-entry.invariant.behind c.entry-item.result.from)

pub loop-entry-preserved : goal.loop-entry-preserved
loop-entry-preserved c = record {
  behind = λ n.
      counted_down c.args.entries.now c.loop-entry.entry-index c.entry-item.result c.loop-entry-test.true c.entry-item.is n (count_of c.set.new.self n) (count_of c.loop-entry.behind n) c.at-others.result
      (c.at-others.ensures ∙ c.loop-entry.invariant.behind c.entry-item.result.from) (c.loop-entry.invariant.behind n) (c.in_ok-set.ensures n);
  rows = elim c.if-at-others.branch [
    | then-at-others+in_ok-duplicate+in_ok-push w ↦
        entry_stays c.args.entries.now c.loop-entry.entry-index c.entry-item.result c.loop-entry-test.true c.entry-item.is (count_of c.args.lost.now) c.loop-entry.rows c.if-at-others.rows _ c.at.result c.at-others.result
        c.at.ensures (c.at-others.ensures ∙ c.loop-entry.invariant.behind c.entry-item.result.from) c.loop-entry.invariant.rows w.if-at-others.true
        (w.rows-is ∙ w.in_ok-push.ensures.ok ∙ ap (λ (e : Incoming). c.loop-entry.rows ++ e ∷ []) w.in_ok-duplicate.ensures)
    | else-at-others w ↦
        entry_goes c.args.entries.now c.loop-entry.entry-index c.entry-item.result c.loop-entry-test.true c.entry-item.is (count_of c.args.lost.now) c.loop-entry.rows c.if-at-others.rows _ c.at.result c.at-others.result
        c.at.ensures (c.at-others.ensures ∙ c.loop-entry.invariant.behind c.entry-item.result.from) c.loop-entry.invariant.rows w.if-at-others.false w.rows-is
  ];
}
