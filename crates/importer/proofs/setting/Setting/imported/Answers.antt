use Rattle.std.proofs.Common.{◌∙◌, ◌++◌, List, Bor, ap, subst}
use Rattle.ir_tree.specs.declared.module.GlobalValue.{GlobalValue}
use Rattle.merge_meaning.specs.ByName.{IsInOrder}
use Rattle.importer.specs.Brought.{brought, joined}
use Rattle.importer.specs.Tables.{values}
use Rattle.importer.proofs.setting.Setting.imported.Goals as goal

pub returns : goal.returns
returns c =
    subst (λ (gs : List GlobalValue). IsInOrder gs (values c.sort_values.new.list.items))
    (c.in_ok-push_brought.ensures
    ∙ ap (λ (l : List (Bor GlobalValue)). values l ++ brought (joined c.args.self.now.parts.now) c.args.self.now.symbols.now c.args.self.now.suffixes.now c.args.numbers.now) c.new-list.ensures.items)
    c.in_ok-sort_values.ensures
