use Rattle.std.proofs.Common.{List, ◌++◌, append-nil, sym, ap, ◌∙◌}
use Rattle.std.proofs.lemmas.List.{drop_all}
use Rattle.ir_parse_parts.specs.declared.raw.Item.{Item}
use Rattle.ir_parse.specs.Lines.{lines_of}
use Rattle.ir_parse.proofs.value_lines.lines_of.Goals as goal

pub returns : goal.returns
returns c = sym (sym c.each.invariant ∙ ap (λ (is : List Item). c.each.out ++ lines_of is) (drop_all c.each.item-index c.args.items.now c.each-test.false) ∙ append-nil c.each.out)
