use Rattle.std.proofs.Common.{List, Option, Bor, ap, ◌∙◌}
use Rattle.ir_tree.specs.declared.operand.Operand.{Operand}
use Rattle.fact_sources.specs.Tables.{row_of}
use Rattle.fact_sources.proofs.LookedUp.{no_row, row_at}
use Rattle.fact_sources.proofs.table.Table.get.Goals as goal

pub returns-in-Some : goal.returns-in-Some
returns-in-Some c =
    row_at c.deref.result.now c.args.local c.in-Some.row.now c.in-Some.ensures.lookup.3.0 c.in-Some.ensures.lookup.1
    ∙ ap (λ (rows : List (Option (Bor Operand))). row_of rows c.args.local) c.deref.ensures.value

pub returns-in-None : goal.returns-in-None
returns-in-None c =
    no_row c.deref.result.now c.args.local c.in-None.ensures.lookup.3 ∙ ap (λ (rows : List (Option (Bor Operand))). row_of rows c.args.local) c.deref.ensures.value
