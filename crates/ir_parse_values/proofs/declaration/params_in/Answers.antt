use Rattle.std.proofs.Common.{ℕ, ◌+◌, List, [], ◌∷◌, ◌++◌, Ok, append_assoc, append-nil, drop, sym, ap, ◌∙◌}
use Rattle.std.proofs.lemmas.List.{drop_all}
use Rattle.ir_parse_parts.specs.declared.raw.Param as written
use Rattle.ir_tree.specs.declared.function.Param.{Param}
use Rattle.ir_parse_names.proofs.Each.{here}
use Rattle.ir_parse_values.specs.Blocks.{params_from}
use Rattle.ir_parse_values.proofs.Bodies.{or_else}
use Rattle.ir_parse_values.proofs.declaration.params_in.Goals as goal

pub each-preserved : goal.each-preserved
each-preserved c =
    let left = drop (c.each.param-index + 1) c.args.written.now in
    ap (λ (ps : List Param). ps ++ params_from c.in_ok-next.next left) c.in_ok-push.ensures.ok
    ∙ append_assoc c.each.out (record { local = c.each.next; reg = c.param-item.result.reg } ∷ []) (params_from c.in_ok-next.next left)
    ∙ ap (λ (n : ℕ). c.each.out ++ record { local = c.each.next; reg = c.param-item.result.reg } ∷ params_from n left) (sym (ap (or_else c.each.next) c.in_ok-next.ensures))
    ∙ sym (ap (λ (ps : List written.Param). c.each.out ++ params_from c.each.next ps) (here c.args.written.now c.each.param-index c.param-item.result c.each-test.true c.param-item.is))
    ∙ c.each.invariant

pub returns : goal.returns
returns c =
    ap (λ (ps : List Param). Ok ps)
    (sym c.each.invariant ∙ ap (λ (ps : List written.Param). c.each.out ++ params_from c.each.next ps) (drop_all c.each.param-index c.args.written.now c.each-test.false) ∙ append-nil c.each.out)
