use Rattle.std.proofs.Common.{List, ℕ, get_or, sym, subst, take}
use Rattle.std.proofs.lemmas.List.{take_more}
use Rattle.combined_index.specs.Walking.{Grown}
use Rattle.combined_index.proofs.Growing.{grown-more}
use Rattle.combined_index.proofs.walk.Walk.reach_all.Goals as goal

pub loop-number-preserved : goal.loop-number-preserved
loop-number-preserved c =
    subst (λ (ns : List ℕ). Grown c.args.self.now.reached c.args.self.now.waiting.items ns c.reach.new.self.reached c.reach.new.self.waiting.items)
    (sym (take_more c.args.numbers.now c.loop-number.number-index 0 c.loop-number-test.true))
    (grown-more c.args.self.now.reached c.loop-number.self.reached c.reach.new.self.reached c.args.self.now.waiting.items c.loop-number.self.waiting.items c.reach.new.self.waiting.items
    (take c.loop-number.number-index c.args.numbers.now) (get_or c.args.numbers.now c.loop-number.number-index 0) c.loop-number.invariant c.in_ok-reach.ensures)
