-- Locals and blocks numbered anew, by one counter in the order of the text: parameters first, then each block followed by
-- its results.
use Rattle.std.specs.Prelude.{ℕ, ◌+◌, List, [], ◌∷◌, ◌++◌, length, Option, Some, None, ◌==◌, if◌then◌else◌}
use Rattle.ir_tree.specs.declared.block.Block.{Block}
use Rattle.ir_tree.specs.declared.function.Function.{Function}
use Rattle.ir_tree.specs.declared.function.Param.{Param}
use Rattle.ir_tree.specs.declared.instr.Line.{Line}
use Rattle.ir_tree.specs.declared.instr.Phi.{Phi}
use Rattle.ir_tree.specs.Edited.{renamed}

-- ---- the numbers that a function defines, in the order of the text

abbrev pub param_numbers : List Param → List ℕ
param_numbers [] = []
param_numbers (p ∷ ps) = p.local ∷ param_numbers ps

abbrev pub phi_numbers : List Phi → List ℕ
phi_numbers [] = []
phi_numbers (p ∷ ps) = p.local ∷ phi_numbers ps

abbrev pub local_number : Option ℕ → List ℕ
local_number None = []
local_number (Some x) = x ∷ []

abbrev pub line_numbers : List Line → List ℕ
line_numbers [] = []
line_numbers (line ∷ rest) = local_number line.local ++ line_numbers rest

unfoldable pub block_numbers : Block → List ℕ
block_numbers b = (b.number ∷ []) ++ (phi_numbers b.phis ++ line_numbers b.lines)

abbrev pub blocks_numbers : List Block → List ℕ
blocks_numbers [] = []
blocks_numbers (b ∷ bs) = block_numbers b ++ blocks_numbers bs

abbrev pub numbers_of : Function → List ℕ
numbers_of f = param_numbers f.params ++ blocks_numbers f.blocks

-- ---- the new numbers

abbrev pub later_or : {A : Type 0} → Option A → Option A → Option A
later_or (Some k) earlier = Some k
later_or None earlier = earlier

-- the place of x among these numbers, of which the first stands at n; of a number that stands twice, the later place
abbrev pub place_from : ℕ → List ℕ → ℕ → Option ℕ
place_from n [] x = None
place_from n (y ∷ ys) x = later_or (place_from (n + 1) ys x) (if y == x then Some n else None)

abbrev pub or_behind : Option ℕ → ℕ → ℕ
or_behind (Some k) behind = k
or_behind None behind = behind

-- the new number of x: its place, or a number behind all places where it isn't defined
unfoldable pub new_number : List ℕ → ℕ → ℕ
new_number numbers x = or_behind (place_from 0 numbers x) (x + length numbers)

-- the function with its locals and blocks under the numbers of their places in the text
abbrev pub in_text_order : Function → Function
in_text_order f = renamed (new_number (numbers_of f)) f
