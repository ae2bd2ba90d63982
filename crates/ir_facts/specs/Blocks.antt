-- A function with other blocks.
use Rattle.std.specs.Prelude.{List}
use Rattle.ir_tree.specs.declared.block.Block.{Block}
use Rattle.ir_tree.specs.declared.function.Function.{Function}

abbrev pub with_blocks : Function → List Block → Function
with_blocks f bs = record f { blocks = bs }
