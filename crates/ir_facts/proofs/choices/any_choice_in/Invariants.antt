use Rattle.std.proofs.Common.{◌≡◌, drop}
use Rattle.ir_facts.specs.Askable.{BlocksHaveWidths}
use Rattle.ir_facts.specs.Settled.{any_choice_in}
use Rattle.ir_facts.proofs.choices.any_choice_in.Given as goal

abbrev pub invariant-loop-block : goal.invariant-loop-block
invariant-loop-block l = record {
  sized : BlocksHaveWidths (drop l.block-index l.blocks);
  same : any_choice_in l.blocks ≡ any_choice_in (drop l.block-index l.blocks);
}
