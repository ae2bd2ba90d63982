use Rattle.std.proofs.Common.{◌≡◌, ◌++◌, ◌+◌, List, sym, ap, ◌∙◌}
use Rattle.std.proofs.lemmas.List.{append-nil, drop_all}
use Rattle.ir_tree.specs.declared.module.GlobalValue.{GlobalValue}
use Rattle.ir_print.specs.Modules as modules
use Rattle.ir_print.proofs.Written.{line_on, dropped}
use Rattle.ir_print.proofs.module.global_values.Goals as goal

pub each-preserved : goal.each-preserved
each-preserved c =
    let e = dropped c.args.globals.now c.each.global-index c.global-item.result _ c.each-test.true c.global-item.is (λ (gs : List GlobalValue). c.each.out.items ++ modules.text_of (modules.global_values gs) ≡ c.args.out.now.items ++ modules.text_of (modules.global_values c.args.globals.now)) c.each.invariant in
    rw c.in_ok-push.ensures.items (line_on _ _ _ _ _ e c.in_ok-global_value.ensures)

pub returns : goal.returns
returns c =
    sym (append-nil c.each.out.items)
    ∙ ap (λ (gs : List GlobalValue). c.each.out.items ++ modules.text_of (modules.global_values gs)) (sym (drop_all c.each.global-index c.args.globals.now c.each-test.false))
    ∙ c.each.invariant
