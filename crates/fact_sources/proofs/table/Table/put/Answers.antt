use Rattle.std.proofs.Common.{Option, Some, nat_eq, if◌then◌else◌, ap, ◌∙◌}
use Rattle.ir_tree.specs.declared.operand.Operand.{Operand}
use Rattle.fact_sources.proofs.LookedUp.{row_set}
use Rattle.fact_sources.proofs.table.Table.put.Goals as goal

pub returns : goal.returns
returns c = λ x.
    row_set c.reach.new.self.rows.items c.args.local x c.args.operand c.in_ok-reach.ensures.there
    ∙ ap (λ (o : Option Operand). if nat_eq c.args.local x then Some c.args.operand.now else o) (c.in_ok-reach.ensures.kept x)
