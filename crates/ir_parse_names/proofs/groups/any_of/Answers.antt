use Rattle.std.proofs.Common.{◌≡◌, ◌+◌, Bool, true, false, ◌||◌, drop, sym, ap, ◌∙◌}
use Rattle.ir_parse_names.specs.Globals.{has_name}
use Rattle.ir_parse_names.specs.Groups.{any_of, group_key}
use Rattle.ir_parse_names.proofs.Each.{here}
use Rattle.ir_parse_names.proofs.groups.any_of.Goals as goal

pub each-preserved : goal.each-preserved
each-preserved c =
    let no : has_name c.args.names.now (group_key c.name-item.result) ≡ false = ap (has_name c.args.names.now) (sym c.group_key.ensures) ∙ sym c.contains.ensures ∙ c.if-contains.false in
    sym (ap (any_of c.args.names.now) (here c.args.named.now c.each.name-index c.name-item.result c.each-test.true c.name-item.is) ∙ ap (λ (b : Bool). b || any_of c.args.names.now (drop (c.each.name-index + 1) c.args.named.now)) no)
    ∙ c.each.invariant

pub returns-then-contains : goal.returns-then-contains
returns-then-contains c =
    let yes : has_name c.args.names.now (group_key c.name-item.result) ≡ true = ap (has_name c.args.names.now) (sym c.group_key.ensures) ∙ sym c.contains.ensures ∙ c.if-contains.true in
    sym (sym c.each.invariant ∙ ap (any_of c.args.names.now) (here c.args.named.now c.each.name-index c.name-item.result c.each-test.true c.name-item.is) ∙ ap (λ (b : Bool). b || any_of c.args.names.now (drop (c.each.name-index + 1) c.args.named.now)) yes)
