use Rattle.std.proofs.Common.{◌∙◌, ◌++◌, ◌∷◌, [], ℕ, List, ap, filter, map}
use Rattle.ir_summary.specs.Once.{texts}
use Rattle.ir_tree.specs.declared.module.GlobalValue.{GlobalValue}
use Rattle.ir_tree.specs.declared.operand.Symbol.{Symbol}
use Rattle.merge_meaning.specs.ByName.{has}
use Rattle.importer.specs.Tasks.{name_of}
use Rattle.importer.proofs.Gathering.{filter_mapped, gathered_more}
use Rattle.importer.proofs.tasks.shared_names.Goals as goal

pub loop-global-preserved : goal.loop-global-preserved
loop-global-preserved c =
    gathered_more (λ (gs : List GlobalValue). filter (has c.args.set.now) (map name_of gs)) (filter_mapped (has c.args.set.now) name_of) c.args.globals.now c.loop-global.global-index c.global-item.result []
    (texts c.loop-global.names.items) (texts c.push_shared.new.names.items) c.loop-global-test.true c.global-item.is c.loop-global.invariant
    (c.in_ok-push_shared.ensures ∙ ap (λ (n : List ℕ). texts c.loop-global.names.items ++ filter (has c.args.set.now) (n ∷ [])) (c.as_slice.ensures ∙ ap (λ (s : Symbol). s.name) c.symbol_of.ensures ∙ ap name_of c.value.ensures))
