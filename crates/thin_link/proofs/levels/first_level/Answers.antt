use Rattle.std.proofs.Common.{[], ℕ, List, arith, subst, sym, take, take_all}
use Rattle.combined_index.specs.declared.definition.Definition.{Definition}
use Rattle.thin_link.specs.Chains.{is_importable}
use Rattle.thin_link.specs.Walking.{Grown, called, live_calls}
use Rattle.thin_link.proofs.Growing.{grown-more, grown-none}
use Rattle.thin_link.proofs.Lists.{joined_more}
use Rattle.thin_link.proofs.levels.first_level.Goals as goal

pub loop-definition-preserved : goal.loop-definition-preserved
loop-definition-preserved c =
    subst (λ (ns : List ℕ). Grown (is_importable c.args.index.now c.args.most) c.args.seen.now [] ns c.reach_from.new.seen c.reach_from.new.level.items)
    (joined_more (live_calls c.args.live.now) c.args.definitions.now c.loop-definition.definition-index c.definition-item.result c.loop-definition-test.true c.definition-item.is)
    (grown-more (is_importable c.args.index.now c.args.most) c.args.seen.now c.loop-definition.seen c.reach_from.new.seen [] c.loop-definition.level.items c.reach_from.new.level.items
    (called c.args.live.now (take c.loop-definition.definition-index c.args.definitions.now)) (live_calls c.args.live.now c.definition-item.result) c.loop-definition.invariant
    c.in_ok-reach_from.ensures)

pub returns : goal.returns
returns c =
    subst (λ (ds : List Definition). Grown (is_importable c.args.index.now c.args.most) c.args.seen.now [] (called c.args.live.now ds) c.loop-definition.seen c.loop-definition.level.items)
    (take_all c.loop-definition.definition-index c.args.definitions.now (omega (arith, c.loop-definition-test.false))) c.loop-definition.invariant

pub loop-definition-init : goal.loop-definition-init
loop-definition-init c =
    subst (λ (ns : List ℕ). Grown (is_importable c.args.index.now c.args.most) c.args.seen.now [] [] c.args.seen.now ns) (sym c.new-level.ensures.items) (grown-none (is_importable c.args.index.now c.args.most) c.args.seen.now [])
