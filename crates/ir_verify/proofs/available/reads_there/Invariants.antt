use Rattle.std.proofs.Common.{take}
use Rattle.std.specs.Prelude.{All}
use Rattle.ir_tree.specs.Items.{reads}
use Rattle.ir_tree.specs.Rules.{IsThere}
use Rattle.ir_tree.specs.declared.operand.Argument.{Argument}
use Rattle.ir_verify.proofs.available.reads_there.Given as goal

abbrev pub invariant-loop-number : goal.invariant-loop-number
invariant-loop-number l = All (λ (a : Argument). IsThere l.function l.block l.line a.operand) (take l.number (reads l.instr))
