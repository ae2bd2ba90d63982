use Rattle.std.proofs.Common.{◌∙◌, ◌<◌, ◌-◌, ◌++◌, [], ℕ, List, length, take, ap, arith, subst, sym}
use Rattle.std.specs.List.{All, Contains}
use Rattle.combined_index.specs.Rows.{row}
use Rattle.combined_index.specs.Walking.{Grown}
use Rattle.combined_index.proofs.Starts.{below_row}
use Rattle.combined_index.proofs.Walks.{walk-done, walk-step}
use Rattle.combined_index.proofs.reaching.reached.Goals as goal

pub loop-number-init : goal.loop-number-init
loop-number-init c = (omega (arith, c.in_ok-walk.ensures.long), c.in_ok-walk.ensures.walk (row c.args.rows.now))

pub reach_all-requires : goal.reach_all-requires
reach_all-requires c =
    subst (λ (n : ℕ). All (λ k. k < n) c.row_of.result.now) (sym c.loop-number.invariant.0)
    (subst (λ (ns : List ℕ). All (λ k. k < length c.args.rows.now) ns) (sym c.row_of.ensures)
    (below_row (length c.args.rows.now) c.args.rows.now c.in-Some.number c.requires.rows))

pub loop-number-preserved : goal.loop-number-preserved
loop-number-preserved c = (
  c.in_ok-reach_all.ensures.long ∙ c.loop-number.invariant.0,
  walk-step (Contains c.args.starts.now) (row c.args.rows.now) c.loop-number.walk.reached c.reach_all.new.self.reached c.loop-number.walk.waiting.items
      c.pop.new.self.items c.reach_all.new.self.waiting.items c.in-Some.number c.in-Some.ensures.items
      (subst (λ (ns : List ℕ). Grown c.loop-number.walk.reached c.pop.new.self.items ns c.reach_all.new.self.reached c.reach_all.new.self.waiting.items)
      c.row_of.ensures c.in_ok-reach_all.ensures) c.loop-number.invariant.1,
)

pub returns-clause-long : goal.returns-clause-long
returns-clause-long c = c.loop-number.invariant.0

pub returns-clause-reached : goal.returns-clause-reached
returns-clause-reached c =
    walk-done (Contains c.args.starts.now) (row c.args.rows.now) c.loop-number.walk.reached c.loop-number.walk.waiting.items
    (c.in_default.ensures.items ∙ ap (λ (l : List ℕ). l ++ []) (c.in_default.ensures.rest ∙ ap (λ (n : ℕ). take (n - 1) c.loop-number.walk.waiting.items) c.in_default.ensures.cases.0))
    c.loop-number.invariant.1
