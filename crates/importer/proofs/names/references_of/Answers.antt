use Rattle.std.proofs.Common.{◌∙◌, Bor, List, ap, arith, take_all}
use Rattle.std.specs.List.{flat_map}
use Rattle.ir_summary.specs.References.{global_names}
use Rattle.ir_tree.specs.declared.module.GlobalValue.{GlobalValue}
use Rattle.importer.specs.Tables.{values}
use Rattle.importer.proofs.names.references_of.Goals as goal

pub returns : goal.returns
returns c =
    c.loop-global.invariant
    ∙ ap (λ (gs : List (Bor GlobalValue)). flat_map global_names (values gs)) (take_all c.loop-global.global-index c.args.globals.now (omega (arith, c.loop-global-test.false)))
