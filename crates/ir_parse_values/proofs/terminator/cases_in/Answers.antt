use Rattle.std.proofs.Common.{◌+◌, List, Ok, append-nil, drop, sym, ap, ◌∙◌}
use Rattle.std.proofs.lemmas.List.{drop_all}
use Rattle.ir_parse_parts.specs.declared.raw.Case as written
use Rattle.ir_tree.specs.declared.block.Case.{Case}
use Rattle.ir_parse_names.specs.Bodies.{case_in}
use Rattle.ir_parse_names.specs.Resolving.{each}
use Rattle.ir_parse_names.proofs.Each.{goes_on, in_front}
use Rattle.ir_parse_values.proofs.terminator.cases_in.Goals as goal

pub each-preserved : goal.each-preserved
each-preserved c =
    ap (λ (out : List Case). in_front out (each (case_in c.args.locals.now) (drop (c.each.case-index + 1) c.args.cases.now))) c.in_ok-push.ensures.ok
    ∙ sym (goes_on (case_in c.args.locals.now) c.args.cases.now c.each.case-index c.each.out c.case-item.result c.in_ok-made.made c.each-test.true c.case-item.is c.in_ok-made.ensures)
    ∙ c.each.invariant

pub returns : goal.returns
returns c =
    sym c.each.invariant ∙ ap (λ (left : List written.Case). in_front c.each.out (each (case_in c.args.locals.now) left)) (drop_all c.each.case-index c.args.cases.now c.each-test.false)
    ∙ ap (λ (out : List Case). Ok out) (append-nil c.each.out)
