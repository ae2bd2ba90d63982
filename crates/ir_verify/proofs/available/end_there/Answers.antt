use Rattle.std.proofs.Common.{[], List, subst}
use Rattle.std.specs.Prelude.{All}
use Rattle.std.proofs.lemmas.List.Elements.{All-head}
use Rattle.ir_tree.specs.declared.operand.Argument.{Argument}
use Rattle.ir_tree.specs.Formed.{ArgumentFormed}
use Rattle.ir_tree.specs.Items.{typed}
use Rattle.ir_verify.proofs.available.end_there.Goals as goal

pub operand_at_end-requires-clause-operand : goal.operand_at_end-requires-clause-operand
operand_at_end-requires-clause-operand c =
    (All-head (ArgumentFormed c.args.function.now) (typed c.in-Some.field-0-0 c.in-Some.operand.now) [] (subst (λ (as' : List Argument). All (ArgumentFormed c.args.function.now) as') c.in-Some.ensures c.requires.reads)).1
