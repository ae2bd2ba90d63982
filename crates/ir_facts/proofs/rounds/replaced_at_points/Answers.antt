use Rattle.std.proofs.Common.{◌≡◌, ℕ, nat_eq, List, sym, ◌∙◌, ap, subst}
use Rattle.std.proofs.lemmas.Result.{IfOk-weaker}
use Rattle.ir_tree.specs.declared.function.Function.{Function}
use Rattle.std.specs.HashSet.{contains}
use Rattle.ir_tree.specs.declared.operand.Operand.{Operand}
use Rattle.ir_edit.specs.Substituted.{substituted}
use Rattle.fact_sources.specs.Apart.{firm, resting}
use Rattle.fact_sources.specs.AtPoints.{function_at}
use Rattle.ir_facts.specs.Steps.{IsStep, candidate_of}
use Rattle.ir_facts.proofs.Parting.{step_at}
use Rattle.ir_facts.proofs.rounds.replaced_at_points.Goals as goal

pub facts_of-requires : goal.facts_of-requires
facts_of-requires c = record { formed = c.requires.sound.formed; graph = c.requires.graph }

pub returns : goal.returns
returns c =
    let f = c.args.f.now in
    let among = contains nat_eq c.args.outside.now in
    let some = c.requires.some ∙ ap (resting among) c.requires.found in
    let others = c.as_slice.ensures.value ∙ c.in_ok-others.ensures ∙ ap (firm among) c.requires.found in
    let half = c.in_ok-h.ensures ∙ ap (λ (rs : List (ℕ × Operand)). substituted rs f) others in
    let step = step_at f c.requires.sound among c.requires.apart c.in_ok-facts.facts.items (c.in_ok-facts.ensures.listed ∙ some) c.in_ok-facts.ensures.each in
    IfOk-weaker c.function_at-g.result (λ (g : Function). g ≡ function_at c.as_slice-2.result.now c.in_ok-h.h) (IsStep (candidate_of f) f)
    (λ g e. subst (IsStep (candidate_of f) f) (sym (e ∙ (λ i. function_at (c.as_slice-2.ensures.value i) (half i)))) step) c.function_at-g.ensures
