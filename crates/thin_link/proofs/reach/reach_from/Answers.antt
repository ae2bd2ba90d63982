use Rattle.std.proofs.Common.{◌∙◌, [], List, ℕ, sym, subst}
use Rattle.std.proofs.lemmas.Bool.{cond-false, cond-true}
use Rattle.thin_link.specs.Chains.{is_importable}
use Rattle.thin_link.specs.Walking.{Grown, is_kept}
use Rattle.thin_link.proofs.Growing.{grown-none}
use Rattle.thin_link.proofs.reach.reach_from.Goals as goal

pub returns-in_ok-reach_all : goal.returns-in_ok-reach_all
returns-in_ok-reach_all c =
    subst (λ (ns : List ℕ). Grown (is_importable c.args.index.now c.args.most) c.args.seen.now c.args.level.now.items ns c.reach_all.new.seen c.reach_all.new.level.items)
    (c.as_slice.ensures ∙ sym (cond-true (is_kept c.args.live.now c.args.definition.now) c.args.definition.now.calls [] (sym c.is_kept.ensures ∙ c.if-is_kept.true)))
    c.in_ok-reach_all.ensures

pub returns-else-is_kept : goal.returns-else-is_kept
returns-else-is_kept c =
    subst (λ (ns : List ℕ). Grown (is_importable c.args.index.now c.args.most) c.args.seen.now c.args.level.now.items ns c.args.seen.now c.args.level.now.items)
    (sym (cond-false (is_kept c.args.live.now c.args.definition.now) c.args.definition.now.calls [] (sym c.is_kept.ensures ∙ c.if-is_kept.false)))
    (grown-none (is_importable c.args.index.now c.args.most) c.args.seen.now c.args.level.now.items)
