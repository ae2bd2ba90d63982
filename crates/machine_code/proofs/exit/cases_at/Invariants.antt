use Rattle.std.proofs.Common.{List, take}
use Rattle.std.specs.List.{AllZip}
use Rattle.ir_tree.specs.declared.block.Block.{Block}
use Rattle.machine_code.specs.Blocks.{ArePositions, IsCase}
use Rattle.machine_code.proofs.exit.cases_at.Given as goal

abbrev pub invariant-loop-case : goal.invariant-loop-case
invariant-loop-case l = (blocks : List Block) → ArePositions blocks l.positions → AllZip (IsCase blocks) (take l.case-index l.cases) l.all.items
