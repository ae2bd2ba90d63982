-- Each use replaced where its fact by itself holds is what a step makes.
use Rattle.std.proofs.Common.{◌≡◌, ℕ, Bool, false, List, [], ◌∷◌, Option, Some, None, refl, sym, subst}
use Rattle.ir_tree.specs.declared.function.Function.{Function}
use Rattle.ir_tree.specs.declared.instr.Line.{Line}
use Rattle.ir_tree.specs.declared.operand.Operand.{Operand}
use Rattle.ir_tree.specs.declared.operand.Operand.TheVariants.{Local}
use Rattle.ir_meaning.specs.Facts.{Facts, Has}
use Rattle.ir_tree.specs.Edited.{edited}
use Rattle.ir_edit.specs.Substituted.{operand_replaced, replacement}
use Rattle.ir_facts.specs.Agreement.{FactsMakeSteps}
use Rattle.fact_sources.specs.AtPoints.{function_at}
use Rattle.ir_facts.specs.Candidates.{candidates}
use Rattle.ir_facts.specs.Steps.{IsStep}
use Rattle.ir_facts.proofs.AtPoints.{made_step}
use Rattle.ir_facts.proofs.Covering.{covered}
use Rattle.ir_facts.proofs.Covers.{opening, with_named}
use Rattle.ir_facts.proofs.Holding.{AreSafe, LinesSafe, SafeFrom}
use Rattle.ir_facts.proofs.Keys.{candidates_once, found_has, has_found}
use Rattle.ir_facts.proofs.Parting.{own_all, sources_less}
use Rattle.ir_facts.proofs.Sourcing.{are_sources}
use Rattle.fact_sources.proofs.Unnamed.{operand_same, unnamed}
use Rattle.fact_sources.proofs.NoneNamed.{blocks_none}

-- no candidates
abbrev nothing : ℕ → Option Operand
nothing x = None

nothing_stays : (f : Function) → edited (λ x. x) (operand_replaced nothing) f ≡ f
nothing_stays f = unnamed (λ x. false) (operand_replaced nothing) (operand_same (λ x. false) nothing (λ x h. refl)) f (blocks_none f.blocks)

no_value : {X : Type 0} (x : ℕ) (v : Operand) → nothing x ≡ Some v → X
no_value x v e = absurd (cc e)

nothing_along : (ls : List Line) (s : ℕ → Bool) → LinesSafe nothing s ls
nothing_along [] s = tt
nothing_along (l ∷ ls) s = (by l.local, nothing_along ls (with_named s l.local))
  where
    by : (o : Option ℕ) → SafeFrom nothing s o
    by None = tt
    by (Some y) = λ x v h is. no_value x v is

nothing_safe : (r : ℕ → ℕ → Bool) (f : Function) → AreSafe nothing r f
nothing_safe r f = record {
  lines = λ p b e. nothing_along b.lines (opening r p b);
  phis = λ p b e x v h is. no_value x v is;
}

pub facts_make : FactsMakeSteps
facts_make f ts sound facts =
    let all = covered f sound in
    subst (λ (g : Function). IsStep (replacement (candidates f)) f (function_at ts g)) (nothing_stays f)
    (made_step (replacement (candidates f)) nothing (λ x v e. no_value x v e) all.family f all.held
    (sources_less (replacement (candidates f)) nothing (λ x v e. no_value x v e) f (are_sources all.family f all.held))
    (nothing_safe all.family f)
    ts facts.each
    (own_all (replacement (candidates f)) ts (λ x v h. has_found (candidates f) (candidates_once f sound.formed.once) x v (subst (λ (fs : Facts). Has fs x v) facts.listed h)))
    (λ x v q none. subst (λ (fs : Facts). Has fs x v) (sym facts.listed) (found_has (candidates f) x v q))
    (λ y x v q h. no_value y (Local x) q))
