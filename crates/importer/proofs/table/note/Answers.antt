use Rattle.std.proofs.Common.{◌∙◌, ap, cond, ℕ, List, Some}
use Rattle.std.specs.Str.{bytes_eq}
use Rattle.ir_tree.specs.declared.module.GlobalValue.{GlobalValue}
use Rattle.ir_tree.specs.declared.operand.Symbol.{Symbol}
use Rattle.ir_meaning.specs.Programs.{symbol_of}
use Rattle.importer.specs.Tables.{value_in}
use Rattle.importer.proofs.Tabled.{put_in}
use Rattle.importer.proofs.table.note.Goals as goal

pub returns : goal.returns
returns c = λ name.
    put_in c.args.table.now c.insert.new.self c.as_slice.result.now c.args.global c.in_ok-insert.ensures.updates name
    ∙ ap (λ (bs : List ℕ). cond (bytes_eq bs name) (Some c.args.global.now) (value_in c.args.table.now name)) (c.as_slice.ensures ∙ ap (λ (s : Symbol). s.name) c.symbol_of.ensures ∙ ap (λ (g : GlobalValue). (symbol_of g).name) c.value.ensures)
