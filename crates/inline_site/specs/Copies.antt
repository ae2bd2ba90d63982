-- The callee's blocks as they are copied into a caller: under new numbers, and with arguments for parameters.
use Rattle.std.specs.Prelude.{ℕ, ◌+◌, List, [], ◌∷◌, ◌++◌, map}
use Rattle.ir_tree.specs.Flow.{room}
use Rattle.ir_tree.specs.declared.block.Block.{Block}
use Rattle.ir_tree.specs.declared.function.Function.{Function}
use Rattle.ir_tree.specs.declared.function.Param.{Param}
use Rattle.ir_tree.specs.declared.operand.Argument.{Argument}
use Rattle.ir_tree.specs.declared.operand.Operand.{Operand}
use Rattle.ir_tree.specs.declared.operand.Operand.TheVariants.{Local}
use Rattle.ir_tree.specs.Edited.{block_edited}
use Rattle.ir_edit.specs.Numbered.{blocks_numbers, new_number, numbers_of}
use Rattle.ir_edit.specs.Substituted.{or_local, replacement}

-- ---- numbers

-- one past the greatest number of a function's locals and blocks
abbrev pub first_free : Function → ℕ
first_free f = room (numbers_of f)

-- what is added, in the order of the text: the callee's blocks with their results, and the block behind the call.
-- That one goes by the first number that is free in the callee
abbrev pub added : Function → List ℕ
added callee = blocks_numbers callee.blocks ++ first_free callee ∷ []

-- what is added takes the numbers from `free` on in this order
abbrev pub copied_number : ℕ → Function → ℕ → ℕ
copied_number free callee x = new_number (added callee) x + free

-- the number of the block behind the call
abbrev pub behind_call : ℕ → Function → ℕ
behind_call free callee = copied_number free callee (first_free callee)

-- ---- operands

-- each parameter with its argument
abbrev pub bound : List Param → List Argument → List (ℕ × Operand)
bound [] arguments = []
bound (p ∷ ps) [] = []
bound (p ∷ ps) (a ∷ more) = (p.local, a.operand) ∷ bound ps more

-- a parameter is its argument, another local has its new number
abbrev pub copied_operand : ℕ → Function → List Argument → Operand → Operand
copied_operand free callee arguments (Local x) = or_local (replacement (bound callee.params arguments) x) (copied_number free callee x)
copied_operand free callee arguments o = o

-- ---- blocks

-- the callee's blocks, still with their returns
abbrev pub copied : ℕ → Function → List Argument → List Block
copied free callee arguments = map (block_edited (copied_number free callee) (copied_operand free callee arguments)) callee.blocks
