-- What a function defines, in the order of its text, and numbers that follow it: parameters first, then each block followed
-- by its results (LangRef, "Identifiers").
use Rattle.std.specs.Prelude.{◌≡◌, ℕ, ◌+◌, Option, Some, None, List, [], ◌∷◌, ◌++◌}
use Rattle.ir_parse_names.specs.declared.locals.Sort.{Sort}
use Rattle.ir_parse_names.specs.declared.locals.Sort.TheVariants.{Value, Block}
use Rattle.ir_tree.specs.declared.block.Block as tree_block
use Rattle.ir_tree.specs.declared.function.Function.{Function}
use Rattle.ir_tree.specs.declared.function.Param.{Param}
use Rattle.ir_tree.specs.declared.instr.Line.{Line}
use Rattle.ir_round_trip.specs.Bodies.{stated}

abbrev pub params_sorts : List Param → List Sort
params_sorts [] = []
params_sorts (p ∷ ps) = Value ∷ params_sorts ps

abbrev pub result_sort : Option ℕ → List Sort
result_sort None = []
result_sort (Some n) = Value ∷ []

abbrev pub lines_sorts : List Line → List Sort
lines_sorts [] = []
lines_sorts (l ∷ ls) = result_sort l.local ++ lines_sorts ls

abbrev pub blocks_sorts : List tree_block.Block → List Sort
blocks_sorts [] = []
blocks_sorts (b ∷ bs) = (Block ∷ lines_sorts (stated b)) ++ blocks_sorts bs

-- values and blocks by their places in the text
abbrev pub sorts : Function → List Sort
sorts f = params_sorts f.params ++ blocks_sorts f.blocks

-- ---- numbers that follow the text, from this one on

abbrev pub ParamsFollow : ℕ → List Param → Type 0
ParamsFollow n [] = Unit {0}
ParamsFollow n (p ∷ ps) = (p.local ≡ n) × ParamsFollow (n + 1) ps

abbrev pub ResultFollows : ℕ → Option ℕ → Type 0
ResultFollows n None = Unit {0}
ResultFollows n (Some x) = x ≡ n

-- the number behind a line's
abbrev pub past : ℕ → Option ℕ → ℕ
past n None = n
past n (Some x) = n + 1

abbrev pub LinesFollow : ℕ → List Line → Type 0
LinesFollow n [] = Unit {0}
LinesFollow n (l ∷ ls) = ResultFollows n l.local × LinesFollow (past n l.local) ls

abbrev pub past_lines : ℕ → List Line → ℕ
past_lines n [] = n
past_lines n (l ∷ ls) = past_lines (past n l.local) ls

abbrev pub BlocksFollow : ℕ → List tree_block.Block → Type 0
BlocksFollow n [] = Unit {0}
BlocksFollow n (b ∷ bs) = ((b.number ≡ n) × LinesFollow (n + 1) (stated b)) × BlocksFollow (past_lines (n + 1) (stated b)) bs

abbrev pub past_params : ℕ → List Param → ℕ
past_params n [] = n
past_params n (p ∷ ps) = past_params (n + 1) ps

-- the numbers of a function are the places of its definitions
abbrev pub IsNumbered : Function → Type 0
IsNumbered f = ParamsFollow 0 f.params × BlocksFollow (past_params 0 f.params) f.blocks
