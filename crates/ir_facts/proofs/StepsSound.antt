-- What a step makes of a sound function is sound.
use Rattle.std.proofs.Common.{ℕ, Option, Some, None, sym, subst}
use Rattle.ir_tree.specs.Rules.{Sound}
use Rattle.ir_tree.specs.declared.block.Block.{Block}
use Rattle.ir_tree.specs.declared.function.Function.{Function}
use Rattle.ir_tree.specs.declared.operand.Operand.{Operand}
use Rattle.ir_meaning.specs.Act.{find_block}
use Rattle.ir_meaning.specs.Facts.{Facts}
use Rattle.ir_edit.specs.Substituted.{replacement}
use Rattle.ir_facts.specs.Candidates.{candidates}
use Rattle.ir_facts.specs.Steps.{StepsAreSound, end_of, ends_of}
use Rattle.ir_facts.proofs.Holding.{Known, known_lines}
use Rattle.ir_facts.proofs.ReplacedSound.{replaced_sound}

pub ends_known : (c : ℕ → Option Operand) (f : Function) (starts : ℕ → Facts) → ((n : ℕ) → Known c (starts n)) → (n : ℕ) → Known c (ends_of c starts f n)
ends_known c f starts known n = by (find_block f.blocks n)
  where
    by : (o : Option Block) → Known c (end_of c starts o)
    by None = λ x v h. absurd h
    by (Some b) = known_lines c b.lines (starts b.number) (known b.number)

pub steps_sound : StepsAreSound
steps_sound f g sound step =
    let known : (n : ℕ) → Known (replacement (candidates f)) (step.starts n) = λ n x v h. step.solution.known n x v h in
    subst Sound (sym (step.most step.starts step.solution (λ n x v h. h)))
    (replaced_sound f sound step.starts (ends_of (replacement (candidates f)) step.starts f) known (ends_known (replacement (candidates f)) f step.starts known))
