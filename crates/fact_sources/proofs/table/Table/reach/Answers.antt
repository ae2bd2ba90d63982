use Rattle.std.proofs.Common.{◌≤◌, ◌∙◌, ◌++◌, ◌+◌, ◌-◌, List, Option, Bor, None, length, replicate, take_all, vec_len, ap, arith}
use Rattle.ir_tree.specs.declared.operand.Operand.{Operand}
use Rattle.fact_sources.specs.Tables.{row_of}
use Rattle.fact_sources.proofs.LookedUp.{rows_filled}
use Rattle.fact_sources.proofs.table.Table.reach.Goals as goal

pub returns-clause-kept : goal.returns-clause-kept
returns-clause-kept c = λ x.
    let old = c.args.self.now.rows.items in
    let fill : List (Option (Bor Operand)) = replicate (c.args.place + 1 - vec_len c.args.self.now.rows) None in
    let most : length old ≤ c.args.place + 1 = omega (arith, c.len-count.ensures, c.if-place-count.false) in
    ap (λ (rows : List (Option (Bor Operand))). row_of rows x) (c.in_ok-resize.ensures.items ∙ ap (λ (rows : List (Option (Bor Operand))). rows ++ fill) (take_all (c.args.place + 1) old most))
    ∙ rows_filled old (c.args.place + 1 - vec_len c.args.self.now.rows) x
