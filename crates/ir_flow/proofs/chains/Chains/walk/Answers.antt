use Rattle.std.proofs.Common.{◌≡◌, ◌∙◌, ◌≤◌, ◌++◌, ◌∷◌, [], ℕ, suc, List, length, Option, Some, ap, sym, subst, arith, append_assoc}
use Rattle.std.specs.Prelude.{slice_get}
use Rattle.std.proofs.lemmas.List.{append-nil}
use Rattle.std.proofs.lemmas.Option.{slice_get-get_or}
use Rattle.ir_flow.specs.declared.chains.Link.{Link}
use Rattle.ir_flow.specs.Chained.{past}
use Rattle.ir_flow.proofs.ChainLaws.{walk-step, walk-end}
use Rattle.ir_flow.proofs.chains.Chains.walk.Goals as goal

pub loop-at-preserved : goal.loop-at-preserved
loop-at-preserved c =
    let links : List Link = c.args.self.now.links.items in
    let i : ℕ = c.in-Some.i in
    let link : Link = c.index-link.result.now in
    let inside : suc i ≤ length links = subst (λ (o : Option ℕ). past o ≤ length links) c.in-Some.is c.loop-at.invariant.inside in
    let at : slice_get links i ≡ Some link = slice_get-get_or links i link inside ∙ ap Some (sym c.index-link.ensures) in
    let back : past link.next ≤ i = c.args.self.now.linked.back i link at in
    record {
      inside = omega (arith, back, inside);
      rest = λ list chain.
          let was = c.loop-at.invariant.rest list chain in
          let done : List ℕ = was.0 in
          let step = walk-step links i link c.loop-at.at was.1 c.in-Some.is at was.4 in
          let v : ℕ = link.value in (
            done ++ v ∷ [],
            step.0,
            append_assoc done (v ∷ []) step.0 ∙ ap (λ (xs : List ℕ). done ++ xs) (sym step.1) ∙ was.2,
            c.in_ok-push.ensures.items ∙ ap (λ (xs : List ℕ). xs ++ v ∷ []) was.3 ∙ append_assoc c.args.row.now.items done (v ∷ []),
            step.2,
          );
    }

pub returns : goal.returns
returns c list chain =
    let was = c.loop-at.invariant.rest list chain in
    let end : was.1 ≡ [] = walk-end c.args.self.now.links.items c.loop-at.at was.1 c.in_default.not-Some was.4 in
    was.3 ∙ ap (λ (xs : List ℕ). c.args.row.now.items ++ xs) (sym (append-nil was.0) ∙ ap (λ (xs : List ℕ). was.0 ++ xs) (sym end) ∙ was.2)
