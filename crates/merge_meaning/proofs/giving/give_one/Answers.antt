use Rattle.std.proofs.Common.{◌≡◌, ◌∙◌, ◌++◌, List, ap, subst, sym}
use Rattle.std.proofs.lemmas.List.{append-nil}
use Rattle.ir_tree.specs.declared.module.GlobalValue.{GlobalValue}
use Rattle.ir_meaning.specs.Programs.{symbol_of}
use Rattle.symbol_resolve.specs.Resolved.{module_of}
use Rattle.std.specs.Prelude.{IfSome}
use Rattle.ir_flow.specs.OfFunction.{IsValueFlow}
use Rattle.merge_meaning.specs.Scopes.{names_by}
use Rattle.merge_meaning.proofs.Flows.{flow_under}
use Rattle.merge_meaning.proofs.Tabled.{given_else, given_then}
use Rattle.merge_meaning.proofs.giving.give_one.Goals as goal

pub of-requires : goal.of-requires
of-requires c = subst (λ (g : GlobalValue). IfSome c.args.flow (IsValueFlow g)) (sym c.in_ok-value.ensures) (flow_under (names_by c.args.scope.now) c.args.global.now c.args.flow c.requires)

pub returns-in_ok-push : goal.returns-in_ok-push
returns-in_ok-push c =
    let chosen : c.module_of-chosen.result ≡ module_of c.args.resolution.now (symbol_of c.args.global.now).name =
    c.module_of-chosen.ensures ∙ ap (module_of c.args.resolution.now) c.name_of.ensures in
    c.in_ok-push.ensures.ok
    ∙ ap (λ (l : List GlobalValue). c.args.rows.now ++ l)
    (given_then c.args.resolution.now c.args.scope.now c.args.global.now c.module_of-chosen.result chosen c.of.result (sym c.gives.ensures ∙ c.if-gives.true) (c.of.ensures ∙ c.in_ok-value.ensures))

pub returns-else-gives : goal.returns-else-gives
returns-else-gives c =
    let chosen : c.module_of-chosen.result ≡ module_of c.args.resolution.now (symbol_of c.args.global.now).name =
    c.module_of-chosen.ensures ∙ ap (module_of c.args.resolution.now) c.name_of.ensures in
    sym (append-nil c.args.rows.now)
    ∙ ap (λ (l : List GlobalValue). c.args.rows.now ++ l)
    (given_else c.args.resolution.now c.args.scope.now c.args.global.now c.module_of-chosen.result chosen (sym c.gives.ensures ∙ c.if-gives.false))
