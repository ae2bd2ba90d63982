use Rattle.std.proofs.Common.{take}
use Rattle.std.specs.Prelude.{All}
use Rattle.ir_tree.specs.Items.{reads}
use Rattle.ir_tree.specs.Rules.{HasType}
use Rattle.ir_verify.proofs.types.reads_typed.Given as goal

abbrev pub invariant-loop-number : goal.invariant-loop-number
invariant-loop-number l = All (HasType l.function) (take l.number (reads l.instr))
