use Rattle.std.proofs.Common.{◌≡◌, ◌∙◌, ◌++◌, subst, List, OnOk, ap}
use Rattle.ir_tree.specs.declared.module.GlobalValue.{GlobalValue}
use Rattle.ir_tree.specs.declared.module.Module.{Module}
use Rattle.merge_meaning.proofs.Tabled.{given_as}
use Rattle.merge_meaning.specs.Merged.{is_own}
use Rattle.merge_meaning.proofs.giving.give.Goals as goal

pub returns-clause-given : goal.returns-clause-given
returns-clause-given c =
    let globals : c.as_slice-globals.result.now ≡ c.args.verified.now.globals = c.as_slice-globals.ensures ∙ ap (λ (m : Module). m.globals) c.module.ensures.module in
    subst (λ (l : List GlobalValue). OnOk c.give_each.result (c.give_each.new.rows ≡ c.args.rows.now ++ l))
    (given_as c.args.resolution.now c.args.link c.args.number c.in_ok-scope.scope c.args.verified.now.globals c.in_ok-scope.ensures.number c.in_ok-scope.ensures.link
    (λ name. c.in_ok-scope.ensures.own name ∙ ap (λ (gs : List GlobalValue). is_own gs name) globals))
    c.give_each.ensures
