-- The numbers of a function within the limits are below 2^32, where they follow its text.
use Rattle.std.proofs.Common.{◌≡◌, ℕ, suc, ◌+◌, ◌<◌, ◌≤◌, Option, Some, None, List, [], ◌∷◌, length, slice_get, refl, sym, ap, subst, ◌∙◌, arith}
use Rattle.std.specs.List.{AllByRecursion as Each}
use Rattle.std.proofs.lemmas.List.{length-append}
use Rattle.ir_parse_bodies.specs.Blocks.{FURTHER_BLOCKS, INSTRUCTIONS}
use Rattle.ir_parse.specs.Modules.{FURTHER_PARAMETERS}
use Rattle.ir_parse_names.specs.declared.locals.Sort.{Sort}
use Rattle.ir_tree.specs.Formed.{IsBlock, IsLocal}
use Rattle.ir_tree.specs.declared.block.Block.{Block}
use Rattle.ir_tree.specs.declared.function.Function.{Function}
use Rattle.ir_tree.specs.declared.function.Param.{Param}
use Rattle.ir_tree.specs.declared.instr.Line.{Line}
use Rattle.ir_round_trip.proofs.Names.{at_place}
use Rattle.ir_round_trip.specs.Within.{FunctionWithin}
use Rattle.ir_round_trip.specs.Bodies.{instructions, stated}
use Rattle.ir_round_trip.proofs.Places.{block_defined, local_defined}
use Rattle.ir_round_trip.specs.Sorts.{params_sorts, result_sort, lines_sorts, blocks_sorts, sorts, ParamsFollow, ResultFollows, LinesFollow, BlocksFollow, past, past_lines, past_params, IsNumbered}
use Rattle.ir_round_trip.specs.PartsReadable.{IsSmall}

-- ---- how many definitions there are

params_many : (ps : List Param) → length (params_sorts ps) ≡ length ps
params_many [] = refl
params_many (p ∷ ps) = ap suc (params_many ps)

one_at_most : (o : Option ℕ) → length (result_sort o) ≤ 1
one_at_most None = omega arith
one_at_most (Some n) = omega arith

lines_many : (ls : List Line) → length (lines_sorts ls) ≤ length ls
lines_many [] = omega arith
lines_many (l ∷ ls) =
    let rest : length (lines_sorts ls) ≤ length ls = lines_many ls in
    let here : length (result_sort l.local) ≤ 1 = one_at_most l.local in
    omega (arith, rest, here, length-append (result_sort l.local) (lines_sorts ls))

blocks_many : (bs : List Block) → length (blocks_sorts bs) ≤ length bs + instructions bs
blocks_many [] = omega arith
blocks_many (b ∷ bs) =
    let rest : length (blocks_sorts bs) ≤ length bs + instructions bs = blocks_many bs in
    let here : length (lines_sorts (stated b)) ≤ length (stated b) = lines_many (stated b) in
    omega (arith, rest, here, length-append (lines_sorts (stated b)) (blocks_sorts bs))

-- a function has so few that each place is a small number
pub few : (f : Function) → FunctionWithin f → length f.params + (length f.blocks + instructions f.blocks) < 4294967296
unfolding FURTHER_PARAMETERS FURTHER_BLOCKS INSTRUCTIONS
few f w = omega (arith, w.few_parameters, w.few_blocks, w.few_instructions)

all_small : (f : Function) → FunctionWithin f → length (sorts f) < 4294967296
all_small f w =
    let low : length f.params + (length f.blocks + instructions f.blocks) < 4294967296 = few f w in
    let some : length (blocks_sorts f.blocks) ≤ length f.blocks + instructions f.blocks = blocks_many f.blocks in
    omega (arith, low, some, params_many f.params, length-append (params_sorts f.params) (blocks_sorts f.blocks))

-- ---- names that are used

there_small : (f : Function) → FunctionWithin f → (s : Sort) (n : ℕ) → slice_get (sorts f) n ≡ Some s → IsSmall n
there_small f w s n e =
    let low : n < length (sorts f) = at_place (sorts f) n s e in
    let all : length (sorts f) < 4294967296 = all_small f w in
    omega (arith, low, all)

pub local_small : (f : Function) (x : ℕ) → FunctionWithin f → IsNumbered f → IsLocal f x → IsSmall x
local_small f x w n h = there_small f w _ x (local_defined f x n h)

pub block_small : (f : Function) (x : ℕ) → FunctionWithin f → IsNumbered f → IsBlock f x → IsSmall x
block_small f x w n h = there_small f w _ x (block_defined f x n h)

-- ---- names that are given

abbrev pub ResultSmall : Option ℕ → Type 0
ResultSmall None = Unit {0}
ResultSmall (Some n) = IsSmall n

result_small : (n : ℕ) (o : Option ℕ) → ResultFollows n o → n < 4294967296 → ResultSmall o
result_small n None f h = tt
result_small n (Some x) f h = subst IsSmall (sym f) h

past_one : (n : ℕ) (o : Option ℕ) → past n o ≤ n + 1
past_one n None = omega arith
past_one n (Some x) = omega arith

past_all : (n : ℕ) (ls : List Line) → past_lines n ls ≤ n + length ls
past_all n [] = omega arith
past_all n (l ∷ ls) =
    let here : past n l.local ≤ n + 1 = past_one n l.local in
    let rest : past_lines (past n l.local) ls ≤ past n l.local + length ls = past_all (past n l.local) ls in
    omega (arith, here, rest)

params_small : (n : ℕ) (ps : List Param) → ParamsFollow n ps → n + length ps < 4294967296 → Each (λ p. IsSmall p.local) ps
params_small n [] f h = tt
params_small n (p ∷ ps) f h = (subst IsSmall (sym f.0) (omega (arith, h)), params_small (n + 1) ps f.1 (omega (arith, h)))

lines_small : (n : ℕ) (ls : List Line) → LinesFollow n ls → n + length ls < 4294967296 → Each (λ l. ResultSmall l.local) ls
lines_small n [] f h = tt
lines_small n (l ∷ ls) f h =
    let here : past n l.local ≤ n + 1 = past_one n l.local in
    (result_small n l.local f.0 (omega (arith, h)), lines_small (past n l.local) ls f.1 (omega (arith, h, here)))

pub record BlockSmall (b : Block) : Type 0 where
  pub number : IsSmall b.number
  pub lines : Each (λ l. ResultSmall l.local) (stated b)

blocks_small : (n : ℕ) (bs : List Block) → BlocksFollow n bs → n + (length bs + instructions bs) < 4294967296 → Each BlockSmall bs
blocks_small n [] f h = tt
blocks_small n (b ∷ bs) f h =
    let behind : past_lines (n + 1) (stated b) ≤ n + 1 + length (stated b) = past_all (n + 1) (stated b) in
    (record { number = subst IsSmall (sym f.0.0) (omega (arith, h)); lines = lines_small (n + 1) (stated b) f.0.1 (omega (arith, h)) }, blocks_small (past_lines (n + 1) (stated b)) bs f.1 (omega (arith, h, behind)))

params_past : (n : ℕ) (ps : List Param) → past_params n ps ≡ n + length ps
params_past n [] = omega arith
params_past n (p ∷ ps) = params_past (n + 1) ps ∙ omega arith

-- the numbers of a function's parameters, and of its blocks and their lines
pub given_small : (f : Function) → FunctionWithin f → IsNumbered f → Each (λ p. IsSmall p.local) f.params × Each BlockSmall f.blocks
given_small f w n =
    let low : length f.params + (length f.blocks + instructions f.blocks) < 4294967296 = few f w in
    (params_small 0 f.params n.0 (omega (arith, low)), blocks_small (past_params 0 f.params) f.blocks n.1 (omega (arith, low, params_past 0 f.params)))
