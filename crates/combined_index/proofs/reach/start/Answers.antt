use Rattle.std.proofs.Common.{◌≡◌, ◌∙◌, ◌+◌, ◌<◌, ◌++◌, ◌∷◌, [], ℕ, List, get_or, take, take_all, length, sym, ap, subst, arith, rules}
use Rattle.std.proofs.lemmas.List.{take_more}
use Rattle.combined_index.specs.LiveMarks.{IsStarted}
use Rattle.combined_index.proofs.Starting.{exported_inside, start-more, start-none, start-same}
use Rattle.combined_index.proofs.reach.start.Goals as goal
use Rattle.combined_index.proofs.reach.start.Goals.{in-Some+in_ok-reach, in_default}

one_more : (roots : List (List ℕ)) (i : ℕ) (item name : List ℕ) → i < length roots → name ≡ get_or roots i item → take i roots ++ name ∷ [] ≡ take (i + 1) roots
one_more roots i item name l is = ap (λ (n : List ℕ). take i roots ++ n ∷ []) is ∙ sym (take_more roots i item l)

pub reach-requires : goal.reach-requires
reach-requires c =
    let l : c.in-Some.number < length c.args.index.now.symbols = exported_inside c.args.index.now c.as_slice.result.now c.in-Some.number (sym c.in-Some.ensures) in
    let long : length c.loop-root.walk.reached ≡ length c.args.index.now.symbols = c.loop-root.invariant.long in
    omega (arith, l, long)

pub loop-root-preserved : goal.loop-root-preserved
loop-root-preserved c =
    let roots = one_more c.args.roots.now c.loop-root.root-index c.root-item.result c.as_slice.result.now c.loop-root-test.true (c.as_slice.ensures ∙ c.root-item.is) in
    elim c.match-exported.branch [
      | in-Some+in_ok-reach w ↦
          rw w.walk-is
          (subst (λ (rs : List (List ℕ)). IsStarted c.args.index.now rs w.reach.new.self.reached w.reach.new.self.waiting.items) roots
          (start-more c.args.index.now (take c.loop-root.root-index c.args.roots.now) c.as_slice.result.now c.loop-root.walk.reached w.reach.new.self.reached c.loop-root.walk.waiting.items
          w.reach.new.self.waiting.items w.in-Some.number w.in-Some.ensures w.in_ok-reach.ensures c.loop-root.invariant))
      | in_default w ↦
          rw w.walk-is
          (subst (λ (rs : List (List ℕ)). IsStarted c.args.index.now rs c.loop-root.walk.reached c.loop-root.walk.waiting.items) roots
          (start-same c.args.index.now (take c.loop-root.root-index c.args.roots.now) c.as_slice.result.now c.loop-root.walk.reached c.loop-root.walk.waiting.items w.in_default.ensures
          c.loop-root.invariant))
    ]

pub loop-root-init : goal.loop-root-init
loop-root-init c = start-none c.args.index.now _ c.in_ok-walk.walk.reached c.in_ok-walk.walk.waiting.items (search rules) c.in_ok-walk.ensures.0 c.in_ok-walk.ensures.1

pub returns : goal.returns
returns c =
    subst (λ (rs : List (List ℕ)). IsStarted c.args.index.now rs c.loop-root.walk.reached c.loop-root.walk.waiting.items) (take_all c.loop-root.root-index c.args.roots.now (omega arith))
    c.loop-root.invariant
