use Rattle.std.proofs.Common.{ℕ, List, sym, ◌∙◌, ap}
use Rattle.std.specs.Prelude.{is_some}
use Rattle.ir_tree.specs.declared.operand.Operand.{Operand}
use Rattle.ir_edit.specs.Substituted.{replacement}
use Rattle.fact_sources.specs.Naming.{blocks_name}
use Rattle.fact_sources.specs.Substitutions.{value_in}
use Rattle.ir_facts.proofs.Unused.{unused_step}
use Rattle.ir_facts.proofs.Widths.{formed_wide}
use Rattle.ir_facts.proofs.rounds.forwarded.Goals as goal

pub candidates-requires : goal.candidates-requires
candidates-requires c = record { sized = formed_wide c.args.f.now c.requires.sound.formed }

pub returns-then-not-used : goal.returns-then-not-used
returns-then-not-used c =
    unused_step c.args.f.now (value_in c.in_ok-substitution.substitution)
    (λ x. c.in_ok-substitution.ensures x ∙ ap (λ (rs : List (ℕ × Operand)). replacement rs x) (c.as_slice.ensures.value ∙ c.in_ok-found.ensures))
    (ap (blocks_name (λ x. is_some (value_in c.in_ok-substitution.substitution x))) (sym c.as_slice-2.ensures) ∙ sym c.is_used-used.ensures ∙ c.if-not-used.true)

pub replaced-requires : goal.replaced-requires
replaced-requires c = record {
  sound = c.requires.sound;
  graph = c.requires.graph;
  apart = c.requires.apart;
  found = c.as_slice-3.ensures.value ∙ c.in_ok-found.ensures;
  whole = λ x. c.in_ok-substitution.ensures x ∙ ap (λ (rs : List (ℕ × Operand)). replacement rs x) (c.as_slice.ensures.value ∙ sym c.as_slice-3.ensures.value);
}

pub returns : goal.returns
returns c = c.in_ok-g.ensures
