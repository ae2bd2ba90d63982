-- In a function whose numbers follow its text a local stands at its number among what is defined, and so does a block.
use Rattle.std.proofs.Common.{◌≡◌, ℕ, zero, suc, ◌+◌, Bool, true, false, ◌||◌, nat_eq, Option, Some, None, List, [], ◌∷◌, ◌++◌, map, length, slice_get, flat_map, refl, ap, subst, ◌∙◌, arith}
use Rattle.ir_parse_names.specs.declared.locals.Sort.{Sort}
use Rattle.ir_parse_names.specs.declared.locals.Sort.TheVariants.{Value, Block}
use Rattle.ir_tree.specs.Flow.{holds, parameters, results, definitions}
use Rattle.ir_tree.specs.Formed.{IsLocal, IsBlock}
use Rattle.ir_tree.specs.declared.block.Block as tree_block
use Rattle.ir_tree.specs.declared.function.Function.{Function}
use Rattle.ir_tree.specs.declared.function.Param.{Param}
use Rattle.ir_tree.specs.declared.instr.Line.{Line}
use Rattle.ir_tree.specs.declared.instr.Phi.{Phi}
use Rattle.ir_round_trip.specs.Bodies.{phi_as_line, stated}
use Rattle.ir_round_trip.specs.PrintedKnown.{IsDefinedAs}
use Rattle.ir_round_trip.specs.Sorts.{params_sorts, result_sort, lines_sorts, blocks_sorts, sorts, ParamsFollow, ResultFollows, LinesFollow, BlocksFollow, past, past_lines, past_params, IsNumbered}

-- the place of this number, where the first stands at n
record IsAt (n : ℕ) (ss : List Sort) (s : Sort) (x : ℕ) : Type 0 where
  place : ℕ
  number : x ≡ n + place
  there : slice_get ss place ≡ Some s

at_front : (n : ℕ) (a b : List Sort) (s : Sort) (x : ℕ) → IsAt n a s x → IsAt n (a ++ b) s x
at_front n a b s x i = record { place = i.place; number = i.number; there = front a i.place i.there }
  where
    front : (a : List Sort) (k : ℕ) → slice_get a k ≡ Some s → slice_get (a ++ b) k ≡ Some s
    front [] k e = absurd cc
    front (t ∷ a) zero e = e
    front (t ∷ a) (suc k) e = front a k e

at_behind : (n : ℕ) (a b : List Sort) (s : Sort) (x : ℕ) → IsAt (n + length a) b s x → IsAt n (a ++ b) s x
at_behind n a b s x i = record { place = length a + i.place; number = (let e : x ≡ n + length a + i.place = i.number in omega (arith, e)); there = behind a i.place i.there }
  where
    behind : (a : List Sort) (k : ℕ) → slice_get b k ≡ Some s → slice_get (a ++ b) (length a + k) ≡ Some s
    behind [] k e = let at : k ≡ 0 + k = omega arith in subst (λ (m : ℕ). slice_get b m ≡ Some s) at e
    behind (t ∷ a) k e = let at : suc (length a + k) ≡ suc (length a) + k = omega arith in subst (λ (m : ℕ). slice_get (t ∷ (a ++ b)) m ≡ Some s) at (behind a k e)

at_here : (n : ℕ) (ss : List Sort) (s : Sort) (x : ℕ) → x ≡ n → IsAt n (s ∷ ss) s x
at_here n ss s x e = record { place = 0; number = omega (arith, e); there = refl }

same : (x y : ℕ) → nat_eq x y ≡ true → x ≡ y
same x y e = grind arith

-- the first of a list, or one of the others
by_first : {A : Type 0} (x y : ℕ) (ys : List ℕ) → holds (y ∷ ys) x ≡ true → (x ≡ y → A) → (holds ys x ≡ true → A) → A
by_first {A} x y ys h here more = by (nat_eq x y) refl h
  where
    by : (b : Bool) → nat_eq x y ≡ b → b || holds ys x ≡ true → A
    by true e h = here (same x y e)
    by false e h = more h

by_parts : {A : Type 0} (x : ℕ) (xs ys : List ℕ) → holds (xs ++ ys) x ≡ true → (holds xs x ≡ true → A) → (holds ys x ≡ true → A) → A
by_parts x [] ys h front back = back h
by_parts {A} x (y ∷ xs) ys h front back = by (nat_eq x y) refl h (λ g k. by_parts x xs ys g k back)
  where
    by : (b : Bool) → nat_eq x y ≡ b → b || holds (xs ++ ys) x ≡ true → (holds (xs ++ ys) x ≡ true → (holds xs x ≡ true → A) → A) → A
    by true e h more = front (ap (λ (b : Bool). b || holds xs x) e)
    by false e h more = more h (λ g. front (ap (λ (b : Bool). b || holds xs x) e ∙ g))

-- ---- parameters and results

param_at : (n x : ℕ) (ps : List Param) → ParamsFollow n ps → holds (map (λ p. p.local) ps) x ≡ true → IsAt n (params_sorts ps) Value x
param_at n x [] f h = absurd cc
param_at n x (p ∷ ps) f h =
    by_first x p.local (map (λ p. p.local) ps) h (λ e. at_here n (params_sorts ps) Value x (e ∙ f.0)) (λ g. at_behind n (Value ∷ []) (params_sorts ps) Value x (param_at (n + 1) x ps f.1 g))

long_params : (n : ℕ) (ps : List Param) → past_params n ps ≡ n + length (params_sorts ps)
long_params n [] = omega arith
long_params n (p ∷ ps) = long_params (n + 1) ps ∙ omega arith

long_lines : (n : ℕ) (ls : List Line) → past_lines n ls ≡ n + length (lines_sorts ls)
long_lines n [] = omega arith
long_lines n (l ∷ ls) = by l.local (long_lines n ls) (long_lines (n + 1) ls)
  where
    by : (name : Option ℕ) → past_lines n ls ≡ n + length (lines_sorts ls) → past_lines (n + 1) ls ≡ n + 1 + length (lines_sorts ls) → past_lines (past n name) ls ≡ n + length (result_sort name ++ lines_sorts ls)
    by None here next = here
    by (Some x) here next = next ∙ omega arith

line_at : (n x : ℕ) (ls : List Line) → LinesFollow n ls → holds (results ls) x ≡ true → IsAt n (lines_sorts ls) Value x
line_at n x [] f h = absurd cc
line_at n x (l ∷ ls) f h = by l.local f h (line_at n x ls) (line_at (n + 1) x ls)
  where
    by : (name : Option ℕ) → ResultFollows n name × LinesFollow (past n name) ls → holds (results (record { local = name; instr = l.instr } ∷ ls)) x ≡ true
        → (LinesFollow n ls → holds (results ls) x ≡ true → IsAt n (lines_sorts ls) Value x)
        → (LinesFollow (n + 1) ls → holds (results ls) x ≡ true → IsAt (n + 1) (lines_sorts ls) Value x)
        → IsAt n (result_sort name ++ lines_sorts ls) Value x
    by None f h here next = here f.1 h
    by (Some y) f h here next = by_first x y (results ls) h (λ e. at_here n (lines_sorts ls) Value x (e ∙ f.0)) (λ g. at_behind n (Value ∷ []) (lines_sorts ls) Value x (next f.1 g))

-- the results of a block's lines are its definitions
all_results : (ps : List Phi) (ls : List Line) → results (map phi_as_line ps ++ ls) ≡ map (λ p. p.local) ps ++ results ls
all_results [] ls = refl
all_results (p ∷ ps) ls = ap (λ (xs : List ℕ). p.local ∷ xs) (all_results ps ls)

-- ---- blocks

local_at : (n x : ℕ) (bs : List tree_block.Block) → BlocksFollow n bs → holds (flat_map definitions bs) x ≡ true → IsAt n (blocks_sorts bs) Value x
local_at n x [] f h = absurd cc
local_at n x (b ∷ bs) f h =
    by_parts x (definitions b) (flat_map definitions bs) h
    (λ g. at_front n (Block ∷ lines_sorts (stated b)) (blocks_sorts bs) Value x (at_behind n (Block ∷ []) (lines_sorts (stated b)) Value x (line_at (n + 1) x (stated b) f.0.1 (ap (λ (xs : List ℕ). holds xs x) (all_results b.phis b.lines) ∙ g))))
    (λ g. at_behind n (Block ∷ lines_sorts (stated b)) (blocks_sorts bs) Value x (subst (λ (m : ℕ). IsAt m (blocks_sorts bs) Value x) (long_lines (n + 1) (stated b) ∙ omega arith) (local_at (past_lines (n + 1) (stated b)) x bs f.1 g)))

block_at : (n x : ℕ) (bs : List tree_block.Block) → BlocksFollow n bs → holds (map (λ b. b.number) bs) x ≡ true → IsAt n (blocks_sorts bs) Block x
block_at n x [] f h = absurd cc
block_at n x (b ∷ bs) f h =
    by_first x b.number (map (λ b. b.number) bs) h (λ e. at_here n (lines_sorts (stated b) ++ blocks_sorts bs) Block x (e ∙ f.0.0))
    (λ g. at_behind n (Block ∷ lines_sorts (stated b)) (blocks_sorts bs) Block x (subst (λ (m : ℕ). IsAt m (blocks_sorts bs) Block x) (long_lines (n + 1) (stated b) ∙ omega arith) (block_at (past_lines (n + 1) (stated b)) x bs f.1 g)))

-- ---- functions

defined : (ss : List Sort) (s : Sort) (x : ℕ) → IsAt 0 ss s x → IsDefinedAs ss s x
defined ss s x i =
    let at : x ≡ 0 + i.place = i.number in
    let same : x ≡ i.place = omega (arith, at) in
    ap (slice_get ss) same ∙ i.there

behind_params : (f : Function) (s : Sort) (x : ℕ) → IsAt (past_params 0 f.params) (blocks_sorts f.blocks) s x → IsAt 0 (sorts f) s x
behind_params f s x i = at_behind 0 (params_sorts f.params) (blocks_sorts f.blocks) s x (subst (λ (m : ℕ). IsAt m (blocks_sorts f.blocks) s x) (long_params 0 f.params) i)

pub local_defined : (f : Function) (x : ℕ) → IsNumbered f → IsLocal f x → IsDefinedAs (sorts f) Value x
local_defined f x n h =
    defined (sorts f) Value x (by_parts x (parameters f) (flat_map definitions f.blocks) h (λ g. at_front 0 (params_sorts f.params) (blocks_sorts f.blocks) Value x (param_at 0 x f.params n.0 g))
    (λ g. behind_params f Value x (local_at (past_params 0 f.params) x f.blocks n.1 g)))

pub block_defined : (f : Function) (x : ℕ) → IsNumbered f → IsBlock f x → IsDefinedAs (sorts f) Block x
block_defined f x n h = defined (sorts f) Block x (behind_params f Block x (block_at (past_params 0 f.params) x f.blocks n.1 h))
