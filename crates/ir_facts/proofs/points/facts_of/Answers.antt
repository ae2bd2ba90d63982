use Rattle.std.proofs.Common.{◌≡◌, ℕ, suc, ◌+◌, ◌++◌, ◌∷◌, [], List, drop, map, subst, sym, ap, ◌∙◌, arith, append-nil, length, false}
use Rattle.std.proofs.Math.Seq.{drop-cons}
use Rattle.std.proofs.lemmas.List.{drop_all, length-replicate}
use Rattle.ir_tree.specs.declared.operand.Operand.{Operand}
use Rattle.ir_facts.specs.Points.{EachIsFact}
use Rattle.fact_sources.specs.declared.fact.Fact.{Fact}
use Rattle.ir_facts.proofs.FactSolutions.{each_pushed, listed_more}
use Rattle.ir_facts.proofs.points.facts_of.Goals as goal

pub loop-pair-preserved : goal.loop-pair-preserved
loop-pair-preserved c =
    let pairs = c.args.pairs.now in
    let i = c.loop-pair.pair-index in
    let pair = c.pair-item.result in
    let old = c.loop-pair.facts.items in
    let fact = c.in_ok-fact.fact in
    let one : suc i ≡ i + 1 = omega arith in
    let more = drop-cons pairs i pair c.loop-pair-test.true ∙ ap (λ (p : ℕ × Operand). p ∷ drop (suc i) pairs) (sym c.pair-item.is) ∙ ap (λ (j : ℕ). pair ∷ drop j pairs) one in
    let made = c.in_ok-fact.ensures in
    record {
      listed =
          ap (λ (ts : List Fact). map (λ (t : Fact). (t.local, t.value)) ts ++ drop (i + 1) pairs) c.in_ok-push.ensures.items
          ∙ listed_more old fact (drop (i + 1) pairs) (drop i pairs) pair.0 pair.1 made.0 made.1 more
          ∙ c.loop-pair.invariant.listed;
      each = subst (EachIsFact c.args.f.now) (sym c.in_ok-push.ensures.items) (each_pushed c.args.f.now old fact c.loop-pair.invariant.each made.2);
    }

pub returns-clause-listed : goal.returns-clause-listed
returns-clause-listed c =
    let pairs = c.args.pairs.now in
    let i = c.loop-pair.pair-index in
    let listed : List (ℕ × Operand) = map (λ (t : Fact). (t.local, t.value)) c.loop-pair.facts.items in
    let none : drop i pairs ≡ [] = drop_all i pairs (omega (arith, c.loop-pair-test.false)) in
    sym (append-nil listed) ∙ ap (λ (rest : List (ℕ × Operand)). listed ++ rest) (sym none) ∙ c.loop-pair.invariant.listed

pub returns-clause-each : goal.returns-clause-each
returns-clause-each c = c.loop-pair.invariant.each

pub loop-pair-init : goal.loop-pair-init
loop-pair-init c = record {
  listed = ap (λ (ts : List Fact). map (λ (t : Fact). (t.local, t.value)) ts ++ c.args.pairs.now) c.in_ok-facts.ensures.items;
  each = subst (EachIsFact c.args.f.now) (sym c.in_ok-facts.ensures.items) tt;
}

pub fact_of-requires-clause-formed : goal.fact_of-requires-clause-formed
fact_of-requires-clause-formed c = c.requires.formed

pub fact_of-requires-clause-graph : goal.fact_of-requires-clause-graph
fact_of-requires-clause-graph c = c.requires.graph

pub fact_of-requires-clause-sized : goal.fact_of-requires-clause-sized
fact_of-requires-clause-sized c = ap length c.in_ok-none.ensures ∙ length-replicate 2 false
