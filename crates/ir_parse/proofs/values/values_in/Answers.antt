use Rattle.std.proofs.Common.{List, Ok, append-nil, sym, ap, ◌∙◌}
use Rattle.std.proofs.lemmas.List.{drop_all}
use Rattle.ir_tree.specs.declared.module.GlobalValue.{GlobalValue}
use Rattle.ir_parse_parts.specs.declared.raw.Item.{Item}
use Rattle.ir_parse_names.proofs.Each.{in_front}
use Rattle.ir_parse.specs.Values.{values_in}
use Rattle.ir_parse.proofs.values.values_in.Goals as goal

pub returns : goal.returns
returns c =
    sym c.each.invariant ∙ ap (λ (is : List Item). in_front c.each.values (values_in c.args.types.now c.args.groups.now is)) (drop_all c.each.item-index c.args.items.now c.each-test.false)
    ∙ ap (λ (vs : List GlobalValue). Ok vs) (append-nil c.each.values)
