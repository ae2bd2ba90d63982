use Rattle.std.proofs.Common.{◌∷◌, [], List, Bool, ℕ, set, true, sym, subst, ◌∙◌}
use Rattle.combined_index.specs.Walking.{Grown}
use Rattle.combined_index.proofs.Growing.{grown-new, grown-old}
use Rattle.combined_index.proofs.walk.Walk.reach.Goals as goal

pub returns-in_ok-push : goal.returns-in_ok-push
returns-in_ok-push c =
    subst (λ (s : List Bool). Grown c.args.self.now.reached c.args.self.now.waiting.items (c.args.number ∷ []) s c.push.new.self.items) (sym c.with.ensures)
    (subst (λ (w : List ℕ). Grown c.args.self.now.reached c.args.self.now.waiting.items (c.args.number ∷ []) (set c.args.self.now.reached c.args.number true) w) (sym c.in_ok-push.ensures.items)
    (grown-new c.args.self.now.reached c.args.self.now.waiting.items c.args.number c.requires (sym c.has.ensures ∙ c.if-not-has.true)))

pub returns-else-not-has : goal.returns-else-not-has
returns-else-not-has c = grown-old c.args.self.now.reached c.args.self.now.waiting.items c.args.number (sym c.has.ensures ∙ c.if-not-has.false)
