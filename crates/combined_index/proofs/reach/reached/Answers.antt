use Rattle.std.proofs.Common.{◌∙◌, ◌-◌, ◌++◌, [], ℕ, List, take, ap, subst}
use Rattle.combined_index.specs.Liveness.{IsExported, refs, refs_of}
use Rattle.combined_index.specs.Walking.{Grown}
use Rattle.combined_index.proofs.Growing.{grown-none}
use Rattle.combined_index.proofs.Starting.{started}
use Rattle.combined_index.proofs.Walks.{walk-done, walk-step}
use Rattle.combined_index.proofs.reach.reached.Goals as goal

pub loop-number-init : goal.loop-number-init
loop-number-init c =
    (c.in_ok-walk.ensures.long, started c.args.index.now c.args.roots.now c.in_ok-walk.walk.reached c.in_ok-walk.walk.waiting.items c.in_ok-walk.ensures)

pub loop-number-preserved-in-Continue-branch-2 : goal.loop-number-preserved-in-Continue-branch-2
loop-number-preserved-in-Continue-branch-2 c = (
  c.in_ok-reach_all.ensures.long ∙ c.loop-number.invariant.0,
  walk-step (IsExported c.args.index.now c.args.roots.now) (refs c.args.index.now) c.loop-number.walk.reached c.reach_all.new.self.reached c.loop-number.walk.waiting.items
      c.pop.new.self.items c.reach_all.new.self.waiting.items c.in-Some.number c.in-Some.ensures.items
      (subst (λ (ns : List ℕ). Grown c.loop-number.walk.reached c.pop.new.self.items ns c.reach_all.new.self.reached c.reach_all.new.self.waiting.items)
      (c.as_slice.ensures ∙ ap refs_of c.in-Some-prevailing.ensures.prevails) c.in_ok-reach_all.ensures) c.loop-number.invariant.1,
)

pub loop-number-preserved : goal.loop-number-preserved
loop-number-preserved c = (
  c.loop-number.invariant.0,
  walk-step (IsExported c.args.index.now c.args.roots.now) (refs c.args.index.now) c.loop-number.walk.reached c.loop-number.walk.reached c.loop-number.walk.waiting.items
      c.pop.new.self.items c.pop.new.self.items c.in-Some.number c.in-Some.ensures.items
      (subst (λ (ns : List ℕ). Grown c.loop-number.walk.reached c.pop.new.self.items ns c.loop-number.walk.reached c.pop.new.self.items)
      (ap refs_of c.in_default-prevailing.ensures.prevails) (grown-none c.loop-number.walk.reached c.pop.new.self.items)) c.loop-number.invariant.1,
)

pub returns : goal.returns
returns c = record {
  long = c.loop-number.invariant.0;
  live =
      walk-done (IsExported c.args.index.now c.args.roots.now) (refs c.args.index.now) c.loop-number.walk.reached c.loop-number.walk.waiting.items
      (c.in_default.ensures.items ∙ ap (λ (l : List ℕ). l ++ []) (c.in_default.ensures.rest ∙ ap (λ (n : ℕ). take (n - 1) c.loop-number.walk.waiting.items) c.in_default.ensures.cases.0))
      c.loop-number.invariant.1;
}
