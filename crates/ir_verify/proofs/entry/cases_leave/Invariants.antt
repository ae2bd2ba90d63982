use Rattle.std.proofs.Common.{take}
use Rattle.std.specs.Prelude.{All}
use Rattle.ir_tree.specs.declared.block.Case.{Case}
use Rattle.ir_verify.specs.Edged.{NoEntry}
use Rattle.ir_verify.proofs.entry.cases_leave.Given as goal

abbrev pub invariant-loop-case : goal.invariant-loop-case
invariant-loop-case l = All (λ (c : Case). NoEntry l.blocks c.target) (take l.case-index l.cases)
