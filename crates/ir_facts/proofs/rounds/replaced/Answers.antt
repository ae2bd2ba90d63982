use Rattle.std.proofs.Common.{◌≡◌, ℕ, nat_eq, List, Result, sym, ◌∙◌, ap, subst}
use Rattle.std.specs.Result.{IfOk}
use Rattle.std.specs.declared.alloc.AllocError.{AllocError}
use Rattle.std.proofs.lemmas.Result.{IfOk-weaker}
use Rattle.std.specs.HashSet.{contains}
use Rattle.ir_tree.specs.declared.function.Function.{Function}
use Rattle.ir_tree.specs.declared.operand.Operand.{Operand}
use Rattle.ir_tree.specs.Edited.{edited}
use Rattle.ir_edit.specs.Substituted.{operand_replaced, substituted}
use Rattle.fact_sources.specs.Apart.{resting}
use Rattle.fact_sources.specs.Substitutions.{IsOf, value_in}
use Rattle.fact_sources.specs.declared.substitution.Substitution.{Substitution}
use Rattle.fact_sources.proofs.NoneNamed.{empty_list}
use Rattle.ir_facts.specs.Candidates.{candidates}
use Rattle.ir_facts.specs.Steps.{IsStep, candidate_of, step_of}
use Rattle.ir_facts.proofs.Parting.{step_clear, step_everywhere}
use Rattle.ir_facts.proofs.Widths.{formed_wide}
use Rattle.ir_facts.proofs.rounds.replaced.Goals as goal

-- what is made by the table is what the facts make
module _ (f : Function) (r : Result Function AllocError) (found : List (ℕ × Operand)) (s : Substitution) (are : found ≡ candidates f) (of : IsOf found s) where
  is_step : (g : Function) → g ≡ edited (λ x. x) (operand_replaced (value_in s)) f → g ≡ step_of f
  is_step g is = is ∙ (λ i. edited (λ x. x) (operand_replaced (λ x. of x i)) f) ∙ ap (λ (rs : List (ℕ × Operand)). substituted rs f) are

  applied : IfOk r (λ g. g ≡ edited (λ x. x) (operand_replaced (value_in s)) f) → IsStep (candidate_of f) f (step_of f) → IfOk r (IsStep (candidate_of f) f)
  applied made step =
      IfOk-weaker r (λ (g : Function). g ≡ edited (λ x. x) (operand_replaced (value_in s)) f) (IsStep (candidate_of f) f)
      (λ g is. subst (IsStep (candidate_of f) f) (sym (is_step g is)) step) made

pub returns-then-count-eq0 : goal.returns-then-count-eq0
returns-then-count-eq0 c =
    let f = c.args.f.now in
    let among = contains nat_eq c.args.outside.now in
    let some = c.in_ok-some.ensures ∙ ap (resting among) c.requires.found in
    applied f c.applied.result c.args.found.now c.args.substitution.now c.requires.found c.requires.whole c.applied.ensures
    (step_everywhere f c.requires.sound among c.requires.apart (sym some ∙ empty_list c.in_ok-some.some.items (sym c.in_ok-some.some.ok.0 ∙ sym c.len-count.ensures ∙ c.if-count-eq0.true)))

pub is_clear-requires : goal.is_clear-requires
is_clear-requires c = record { sized = formed_wide c.args.f.now c.requires.sound.formed; graph = c.requires.graph }

pub returns-then-clear : goal.returns-then-clear
returns-then-clear c =
    let f = c.args.f.now in
    applied f c.applied-then-clear.result c.args.found.now c.args.substitution.now c.requires.found c.requires.whole c.applied-then-clear.ensures
    (step_clear f c.requires.sound (contains nat_eq c.args.outside.now) c.requires.apart (c.in_ok-clear.ensures c.if-clear.true))

pub replaced_at_points-requires : goal.replaced_at_points-requires
replaced_at_points-requires c = record {
  sound = c.requires.sound;
  graph = c.requires.graph;
  apart = c.requires.apart;
  found = c.requires.found;
  some = c.as_slice.ensures.value ∙ c.in_ok-some.ensures;
}
