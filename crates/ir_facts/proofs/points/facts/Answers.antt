use Rattle.std.proofs.Common.{◌∙◌}
use Rattle.ir_facts.proofs.Widths.{formed_wide}
use Rattle.ir_facts.proofs.points.facts.Goals as goal

pub candidates-requires : goal.candidates-requires
candidates-requires c = record { sized = formed_wide c.args.f.now c.requires.formed }

pub returns : goal.returns
returns c = record {
  listed = c.in_ok-facts.ensures.listed ∙ c.as_slice.ensures.value ∙ c.in_ok-found.ensures;
  each = c.in_ok-facts.ensures.each;
}
