use Rattle.std.proofs.Common.{map, subst, sym, ap, ◌∙◌}
use Rattle.ir_facts.specs.Askable.{LinesHaveWidths}
use Rattle.ir_facts.specs.Settled.{settled_line}
use Rattle.ir_facts.proofs.choices.settled_block.Goals as goal

pub settled_lines-requires : goal.settled_lines-requires
settled_lines-requires c = record { sized = subst LinesHaveWidths (sym c.as_slice.ensures) c.requires.sized }

pub returns : goal.returns
returns c =
    let lines = c.in_ok-lines.ensures ∙ ap (map settled_line) c.as_slice.ensures in
    λ i. record { number = c.args.block.now.number; phis = c.in_ok-phis.ensures i; lines = lines i; end = c.in_ok-end.ensures i }
