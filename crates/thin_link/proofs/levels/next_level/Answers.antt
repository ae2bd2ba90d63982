use Rattle.std.proofs.Common.{[], ℕ, List, arith, get_or, subst, sym, take, take_all}
use Rattle.std.proofs.lemmas.List.{get_or_default}
use Rattle.thin_link.specs.Chains.{callees, is_importable}
use Rattle.thin_link.specs.Walking.{Grown, called_by}
use Rattle.thin_link.proofs.Growing.{grown-more, grown-none}
use Rattle.thin_link.proofs.Lists.{joined_more}
use Rattle.thin_link.proofs.levels.next_level.Goals as goal

pub loop-function-preserved : goal.loop-function-preserved
loop-function-preserved c =
    subst (λ (ns : List ℕ). Grown (is_importable c.args.index.now c.args.most) c.args.seen.now [] ns c.reach_through.new.seen c.reach_through.new.level.items)
    (joined_more (callees c.args.index.now) c.args.level.now c.loop-function.function-index (get_or c.args.level.now c.loop-function.function-index 0) c.loop-function-test.true
    (get_or_default c.args.level.now c.loop-function.function-index 0 (get_or c.args.level.now c.loop-function.function-index 0) c.loop-function-test.true))
    (grown-more (is_importable c.args.index.now c.args.most) c.args.seen.now c.loop-function.seen c.reach_through.new.seen [] c.loop-function.next.items c.reach_through.new.level.items
    (called_by c.args.index.now (take c.loop-function.function-index c.args.level.now)) (callees c.args.index.now (get_or c.args.level.now c.loop-function.function-index 0))
    c.loop-function.invariant c.in_ok-reach_through.ensures)

pub returns : goal.returns
returns c =
    subst (λ (ns : List ℕ). Grown (is_importable c.args.index.now c.args.most) c.args.seen.now [] (called_by c.args.index.now ns) c.loop-function.seen c.loop-function.next.items)
    (take_all c.loop-function.function-index c.args.level.now (omega (arith, c.loop-function-test.false))) c.loop-function.invariant

pub loop-function-init : goal.loop-function-init
loop-function-init c =
    subst (λ (ns : List ℕ). Grown (is_importable c.args.index.now c.args.most) c.args.seen.now [] [] c.args.seen.now ns) (sym c.new-next.ensures.items) (grown-none (is_importable c.args.index.now c.args.most) c.args.seen.now [])
