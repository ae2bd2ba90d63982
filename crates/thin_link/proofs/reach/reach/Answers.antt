use Rattle.std.proofs.Common.{◌∙◌, ◌∷◌, [], List, Bool, ℕ, set, true, sym, subst}
use Rattle.thin_link.specs.Chains.{is_importable}
use Rattle.thin_link.specs.Walking.{Grown}
use Rattle.thin_link.proofs.Growing.{grown-new}
use Rattle.thin_link.proofs.reach.reach.Goals as goal

pub returns-in_ok-push : goal.returns-in_ok-push
returns-in_ok-push c =
    subst (λ (s : List Bool). Grown (is_importable c.args.index.now c.args.most) c.args.seen.now c.args.level.now.items (c.args.function ∷ []) s c.push.new.self.items) (sym c.note.ensures)
    (subst
    (λ (w : List ℕ). Grown (is_importable c.args.index.now c.args.most) c.args.seen.now c.args.level.now.items (c.args.function ∷ []) (set c.args.seen.now c.args.function true) w)
    (sym c.in_ok-push.ensures.items)
    (grown-new (is_importable c.args.index.now c.args.most) c.args.seen.now c.args.level.now.items c.args.function c.requires (sym c.has.ensures ∙ c.if-not-has.true)
    (sym c.is_importable.ensures ∙ c.if-is_importable.true)))
