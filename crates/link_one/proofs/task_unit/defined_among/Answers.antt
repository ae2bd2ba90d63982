use Rattle.std.proofs.Common.{[], List, Bor, ◌∙◌, ap, arith, take_all}
use Rattle.ir_tree.specs.declared.module.GlobalValue.{GlobalValue}
use Rattle.importer.specs.Tables.{values}
use Rattle.importer.proofs.Gathering.{filter_mapped, gathered_more}
use Rattle.link_one.specs.TaskUnits.{definitions, is_defined}
use Rattle.link_one.proofs.task_unit.defined_among.Goals as goal

pub loop-global-preserved : goal.loop-global-preserved
loop-global-preserved c =
    gathered_more (λ (gs : List (Bor GlobalValue)). definitions (values gs)) (filter_mapped is_defined (λ (g : Bor GlobalValue). g.now)) c.args.globals.now c.loop-global.global-index c.global-item.result []
    (values c.loop-global.list.items) (values c.push_defined.new.list.items) c.loop-global-test.true c.global-item.is c.loop-global.invariant c.in_ok-push_defined.ensures

pub returns : goal.returns
returns c =
    c.loop-global.invariant
    ∙ ap (λ (gs : List (Bor GlobalValue)). definitions (values gs)) (take_all c.loop-global.global-index c.args.globals.now (omega (arith, c.loop-global-test.false)))
