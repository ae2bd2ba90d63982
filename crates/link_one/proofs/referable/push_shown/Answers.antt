use Rattle.std.proofs.Common.{◌∙◌, ◌++◌, ◌∷◌, [], List, Bor, ap}
use Rattle.ir_tree.specs.declared.module.GlobalValue.{GlobalValue}
use Rattle.importer.specs.Tables.{values}
use Rattle.importer.proofs.Gathering.{gathered_more}
use Rattle.link_one.specs.Units.{shown}
use Rattle.link_one.proofs.Referables.{shown_of_values}
use Rattle.link_one.proofs.referable.push_shown.Goals as goal

pub loop-global-preserved : goal.loop-global-preserved
loop-global-preserved c =
    gathered_more (λ (gs : List (Bor GlobalValue)). shown (values gs)) shown_of_values c.args.globals.now c.loop-global.global-index c.global-item.result c.args.names.now c.loop-global.names c.push_name.new.names
    c.loop-global-test.true c.global-item.is c.loop-global.invariant
    (c.in_ok-push_name.ensures ∙ ap (λ (g : GlobalValue). c.loop-global.names ++ shown (g ∷ [])) c.value.ensures)
