use Rattle.std.proofs.Common.{◌∙◌, ◌++◌, ◌∷◌, [], Bor, ap, arith, take_all}
use Rattle.std.proofs.lemmas.List.{map-append, map_push}
use Rattle.ir_tree.specs.declared.module.GlobalValue.{GlobalValue}
use Rattle.importer.specs.Tables.{values}
use Rattle.importer.proofs.Gathering.{gathered_more}
use Rattle.link_one.proofs.task_unit.plain.Goals as goal

pub loop-global-preserved : goal.loop-global-preserved
loop-global-preserved c =
    gathered_more values (map-append (λ (g : Bor GlobalValue). g.now)) c.args.globals.now c.loop-global.global-index c.global-item.result [] (values c.loop-global.list.items) (values c.push.new.self.items)
    c.loop-global-test.true c.global-item.is c.loop-global.invariant
    (ap values c.in_ok-push.ensures.items ∙ map_push (λ (g : Bor GlobalValue). g.now) c.loop-global.list.items c.value.result
    ∙ ap (λ (g : GlobalValue). values c.loop-global.list.items ++ g ∷ []) c.value.ensures)

pub returns : goal.returns
returns c = c.loop-global.invariant ∙ ap values (take_all c.loop-global.global-index c.args.globals.now (omega (arith, c.loop-global-test.false)))
