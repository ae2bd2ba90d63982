-- Code whose lines can run, list by list.
use Rattle.std.specs.Prelude.{All, List, Option, Some, None}
use Rattle.ir_interp.specs.Tasks.{CanRun}
use Rattle.ir_interp.specs.declared.line.CodeLine.{CodeLine}
use Rattle.ir_interp.specs.declared.code.Block.{Block}
use Rattle.ir_interp.specs.declared.code.Function.{Function}

abbrev pub AreSound : List CodeLine → Type 0
AreSound lines = All (λ (line : CodeLine). CanRun line.task) lines

abbrev pub AreBlocksSound : List Block → Type 0
AreBlocksSound blocks = All (λ (block : Block). AreSound block.lines.items) blocks

-- where a function is defined, its lines can run
abbrev pub IsBodySound : Option Function → Type 0
IsBodySound None = Unit {0}
IsBodySound (Some function) = AreBlocksSound function.blocks.items
