use Rattle.std.proofs.Common.{◌∙◌, List, ℕ, ap, subst}
use Rattle.thin_link.specs.Chains.{callees_of, is_importable}
use Rattle.thin_link.specs.Walking.{Grown}
use Rattle.thin_link.proofs.Growing.{grown-none}
use Rattle.thin_link.proofs.reach.reach_through.Goals as goal

pub returns-in_ok-reach_all : goal.returns-in_ok-reach_all
returns-in_ok-reach_all c =
    subst (λ (ns : List ℕ). Grown (is_importable c.args.index.now c.args.most) c.args.seen.now c.args.level.now.items ns c.reach_all.new.seen c.reach_all.new.level.items)
    (c.as_slice.ensures ∙ ap callees_of c.in-Some.ensures.prevails) c.in_ok-reach_all.ensures

pub returns-in_default : goal.returns-in_default
returns-in_default c =
    subst (λ (ns : List ℕ). Grown (is_importable c.args.index.now c.args.most) c.args.seen.now c.args.level.now.items ns c.args.seen.now c.args.level.now.items)
    (ap callees_of c.in_default.ensures.prevails) (grown-none (is_importable c.args.index.now c.args.most) c.args.seen.now c.args.level.now.items)
