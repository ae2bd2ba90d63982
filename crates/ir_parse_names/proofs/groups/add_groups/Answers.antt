use Rattle.std.proofs.Common.{◌+◌, drop, Ok, sym, ap, ◌∙◌}
use Rattle.std.proofs.lemmas.List.{drop_all}
use Rattle.ir_parse_names.specs.declared.groups.Groups.{Groups}
use Rattle.ir_parse_names.specs.Groups.{with_groups}
use Rattle.ir_parse_names.proofs.Each.{here}
use Rattle.ir_parse_names.proofs.Failing.{ok_is}
use Rattle.ir_parse_names.proofs.groups.add_groups.Goals as goal

pub each-preserved : goal.each-preserved
each-preserved c =
    sym (ap (with_groups c.each.found) (here c.args.items.now c.each.item-index c.item-item.result c.each-test.true c.item-item.is) ∙ ap (λ (g : Groups). with_groups g (drop (c.each.item-index + 1) c.args.items.now)) (ok_is _ _ c.in_ok-with_group.ensures))
    ∙ c.each.invariant

pub returns : goal.returns
returns c = ap (λ (g : Groups). Ok g) (sym c.each.invariant ∙ ap (with_groups c.each.found) (drop_all c.each.item-index c.args.items.now c.each-test.false))
