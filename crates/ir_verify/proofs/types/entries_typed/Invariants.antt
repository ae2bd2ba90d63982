use Rattle.std.proofs.Common.{take}
use Rattle.std.specs.Prelude.{All}
use Rattle.ir_tree.specs.Items.{typed}
use Rattle.ir_tree.specs.Rules.{HasType}
use Rattle.ir_verify.proofs.types.entries_typed.Given as goal

abbrev pub invariant-loop-entry : goal.invariant-loop-entry
invariant-loop-entry l = All (λ e. HasType l.function (typed l.reg e.value)) (take l.entry-index l.entries)
