use Rattle.std.proofs.Common.{◌+◌, List, Ok, append-nil, drop, sym, ap, ◌∙◌}
use Rattle.std.proofs.lemmas.List.{drop_all}
use Rattle.ir_parse_parts.specs.declared.raw.Argument as written
use Rattle.ir_tree.specs.declared.operand.Argument.{Argument}
use Rattle.ir_parse_names.specs.Bodies.{argument_in}
use Rattle.ir_parse_names.specs.Resolving.{each}
use Rattle.ir_parse_names.proofs.Each.{goes_on, in_front}
use Rattle.ir_parse_values.proofs.operand.arguments_in.Goals as goal

pub each-preserved : goal.each-preserved
each-preserved c =
    ap (λ (out : List Argument). in_front out (each (argument_in c.args.types.now c.args.locals.now) (drop (c.each.argument-index + 1) c.args.arguments.now))) c.in_ok-push.ensures.ok
    ∙ sym (goes_on (argument_in c.args.types.now c.args.locals.now) c.args.arguments.now c.each.argument-index c.each.out c.argument-item.result c.in_ok-made.made c.each-test.true c.argument-item.is c.in_ok-made.ensures)
    ∙ c.each.invariant

pub returns : goal.returns
returns c =
    sym c.each.invariant ∙ ap (λ (left : List written.Argument). in_front c.each.out (each (argument_in c.args.types.now c.args.locals.now) left)) (drop_all c.each.argument-index c.args.arguments.now c.each-test.false)
    ∙ ap (λ (out : List Argument). Ok out) (append-nil c.each.out)
