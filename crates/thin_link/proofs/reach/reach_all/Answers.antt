use Rattle.std.proofs.Common.{List, ℕ, ◌∷◌, [], arith, get_or, sym, subst, take, take_all}
use Rattle.std.proofs.lemmas.List.{take_more}
use Rattle.thin_link.specs.Chains.{is_importable}
use Rattle.thin_link.specs.Walking.{Grown}
use Rattle.thin_link.proofs.Growing.{grown-more, grown-none}
use Rattle.thin_link.proofs.reach.reach_all.Goals as goal

pub loop-function-init : goal.loop-function-init
loop-function-init c = grown-none (is_importable c.args.index.now c.args.most) c.args.seen.now c.args.level.now.items

pub loop-function-preserved : goal.loop-function-preserved
loop-function-preserved c =
    subst (λ (ns : List ℕ). Grown (is_importable c.args.index.now c.args.most) c.args.seen.now c.args.level.now.items ns c.reach.new.seen c.reach.new.level.items)
    (sym (take_more c.args.functions.now c.loop-function.function-index 0 c.loop-function-test.true))
    (grown-more (is_importable c.args.index.now c.args.most) c.args.seen.now c.loop-function.seen c.reach.new.seen c.args.level.now.items c.loop-function.level.items c.reach.new.level.items
    (take c.loop-function.function-index c.args.functions.now) (get_or c.args.functions.now c.loop-function.function-index 0 ∷ []) c.loop-function.invariant c.in_ok-reach.ensures)

pub returns : goal.returns
returns c =
    subst (λ (ns : List ℕ). Grown (is_importable c.args.index.now c.args.most) c.args.seen.now c.args.level.now.items ns c.loop-function.seen c.loop-function.level.items)
    (take_all c.loop-function.function-index c.args.functions.now (omega (arith, c.loop-function-test.false))) c.loop-function.invariant
