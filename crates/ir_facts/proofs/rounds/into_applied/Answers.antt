use Rattle.std.proofs.Common.{◌≡◌, Bool, false, ℕ, nat_eq, List, Result, sym, ◌∙◌, ap, subst}
use Rattle.std.specs.Result.{IfOk}
use Rattle.std.specs.declared.alloc.AllocError.{AllocError}
use Rattle.std.proofs.lemmas.Result.{IfOk-weaker}
use Rattle.ir_tree.specs.declared.function.Function.{Function}
use Rattle.std.specs.HashSet.{contains}
use Rattle.std.specs.List.{list_any}
use Rattle.ir_tree.specs.Rules.{Sound}
use Rattle.ir_tree.specs.declared.block.Block.{Block}
use Rattle.ir_flow.specs.OfFunction.{IsGraphOf, IsReach}
use Rattle.fact_sources.specs.Apart.{IsApart}
use Rattle.fact_sources.proofs.NoneNamed.{empty_list}
use Rattle.ir_facts.specs.Blocks.{with_blocks}
use Rattle.ir_facts.specs.Steps.{AreRounds}
use Rattle.ir_facts.proofs.InRounds.{are_better}
use Rattle.ir_facts.proofs.StillApart.{rounds_graph, rounds_reach}
use Rattle.ir_facts.proofs.rounds.into_applied.Goals as goal

-- what rounds make is sound
still_sound : (f : Function) (r : Result (Function × Bool) AllocError) → Sound f → IfOk r (λ made. AreRounds 16 f made.0) → IfOk r (λ made. Sound made.0)
still_sound f r sound made = IfOk-weaker r (λ both. AreRounds 16 f both.0) (λ both. Sound both.0) (λ both all. (are_better 16 f both.0 sound all).0) made

-- and has the same edges
still_graph : (f : Function) (edges : List (List ℕ)) (r : Result (Function × Bool) AllocError) → IsGraphOf f edges → IfOk r (λ made. AreRounds 16 f made.0) → IfOk r (λ made. IsGraphOf made.0 edges)
still_graph f edges r graph made = IfOk-weaker r (λ both. AreRounds 16 f both.0) (λ both. IsGraphOf both.0 edges) (λ both all. rounds_graph 16 edges f both.0 all graph) made

-- and the same blocks reached
still_reached : (f : Function) (s : List Bool) (r : Result (Function × Bool) AllocError) → IsReach f s → IfOk r (λ made. AreRounds 16 f made.0) → IfOk r (λ made. IsReach made.0 s)
still_reached f s r reach made = IfOk-weaker r (λ both. AreRounds 16 f both.0) (λ both. IsReach both.0 s) (λ both all. rounds_reach 16 s f both.0 all reach) made

pub rounds_in_place-g-requires : goal.rounds_in_place-g-requires
rounds_in_place-g-requires c =
    let set = c.in_ok-outside.outside in
    let none = empty_list set.keys (c.is_empty-none.ensures.0 c.if-none.true) in
    let own = sym (c.into_vec-blocks.ensures ∙ c.replace.ensures.value) in
    record {
      sound = subst (λ (bs : List Block). Sound (with_blocks c.args.f bs)) own c.requires.sound;
      graph = subst (λ (bs : List Block). IsGraphOf (with_blocks c.args.f bs) c.args.edges.now) own c.requires.graph;
      apart = subst (λ (bs : List Block). IsApart (with_blocks c.args.f bs) (contains nat_eq set)) own c.in_ok-outside.ensures;
      none = λ x. ap (λ (ks : List ℕ). list_any (nat_eq x) ks) none;
    }

pub returns-then-none : goal.returns-then-none
returns-then-none c =
    let own = c.into_vec-blocks.ensures ∙ c.replace.ensures.value in
    let made =
    subst (λ (bs : List Block). IfOk c.rounds_in_place-g.result (λ both. AreRounds 16 (with_blocks c.args.f bs) both.0)) own c.rounds_in_place-g.ensures.made in
    record {
      made = made;
      sound = still_sound c.args.f c.rounds_in_place-g.result c.requires.sound made;
      graph = still_graph c.args.f c.args.edges.now c.rounds_in_place-g.result c.requires.graph made;
      reach = still_reached c.args.f c.args.reached.now c.rounds_in_place-g.result c.requires.reach made;
      same = subst (λ (bs : List Block). IfOk c.rounds_in_place-g.result (λ both. both.1 ≡ false → both.0 ≡ with_blocks c.args.f bs)) own c.rounds_in_place-g.ensures.same;
    }

pub returns : goal.returns
returns c =
    let made = c.rounds.ensures.made in
    record {
      made = made;
      sound = still_sound c.args.f c.rounds.result c.requires.sound made;
      graph = still_graph c.args.f c.args.edges.now c.rounds.result c.requires.graph made;
      reach = still_reached c.args.f c.args.reached.now c.rounds.result c.requires.reach made;
      same = c.rounds.ensures.same;
    }
