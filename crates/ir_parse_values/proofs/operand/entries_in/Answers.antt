use Rattle.std.proofs.Common.{◌+◌, List, Ok, append-nil, drop, sym, ap, ◌∙◌}
use Rattle.std.proofs.lemmas.List.{drop_all}
use Rattle.ir_parse_parts.specs.declared.raw.Incoming as written
use Rattle.ir_tree.specs.declared.instr.Incoming.{Incoming}
use Rattle.ir_parse_names.specs.Bodies.{incoming_in}
use Rattle.ir_parse_names.specs.Resolving.{each}
use Rattle.ir_parse_names.proofs.Each.{goes_on, in_front}
use Rattle.ir_parse_values.proofs.operand.entries_in.Goals as goal

pub each-preserved : goal.each-preserved
each-preserved c =
    ap (λ (out : List Incoming). in_front out (each (incoming_in c.args.types.now c.args.locals.now) (drop (c.each.entry-index + 1) c.args.entries.now))) c.in_ok-push.ensures.ok
    ∙ sym (goes_on (incoming_in c.args.types.now c.args.locals.now) c.args.entries.now c.each.entry-index c.each.out c.entry-item.result c.in_ok-made.made c.each-test.true c.entry-item.is c.in_ok-made.ensures)
    ∙ c.each.invariant

pub returns : goal.returns
returns c =
    sym c.each.invariant ∙ ap (λ (left : List written.Incoming). in_front c.each.out (each (incoming_in c.args.types.now c.args.locals.now) left)) (drop_all c.each.entry-index c.args.entries.now c.each-test.false)
    ∙ ap (λ (out : List Incoming). Ok out) (append-nil c.each.out)
