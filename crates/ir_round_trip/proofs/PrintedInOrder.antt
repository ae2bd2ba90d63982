-- Numbering anew makes numbers that follow the text.
use Rattle.std.proofs.Common.{◌≡◌, ℕ, suc, ◌+◌, Option, Some, None, option_map, List, [], ◌∷◌, ◌++◌, map, slice_get, refl, sym, ap, subst, ◌∙◌, arith}
use Rattle.std.proofs.lemmas.List.{map-append}
use Rattle.std.proofs.lemmas.Option.{slice_get-map}
use Rattle.ir_tree.specs.Edited.{param_edited, phi_edited, line_edited, block_edited, operand_renamed, renamed}
use Rattle.ir_edit.specs.InOrder.{TextOrderCounts}
use Rattle.ir_edit.specs.Numbered.{param_numbers, phi_numbers, local_number, line_numbers, block_numbers, blocks_numbers, numbers_of, new_number, in_text_order}
use Rattle.ir_tree.specs.Formed.{Formed}
use Rattle.ir_tree.specs.declared.block.Block.{Block}
use Rattle.ir_tree.specs.declared.function.Function.{Function}
use Rattle.ir_tree.specs.declared.function.Param.{Param}
use Rattle.ir_tree.specs.declared.instr.Line.{Line}
use Rattle.ir_tree.specs.declared.instr.Phi.{Phi}
use Rattle.ir_round_trip.specs.Bodies.{phi_as_line, stated}
use Rattle.ir_round_trip.specs.Sorts.{ParamsFollow, ResultFollows, LinesFollow, BlocksFollow, past, past_lines, past_params, IsNumbered}

-- numbers that count on from this one
abbrev CountOn : ℕ → List ℕ → Type 0
CountOn n [] = Unit {0}
CountOn n (x ∷ xs) = (x ≡ n) × CountOn (n + 1) xs

count_front : (n : ℕ) (xs ys : List ℕ) → CountOn n (xs ++ ys) → CountOn n xs
count_front n [] ys h = tt
count_front n (x ∷ xs) ys h = (h.0, count_front (n + 1) xs ys h.1)

params_follow : (n : ℕ) (ps : List Param) (more : List ℕ) → CountOn n (param_numbers ps ++ more) → ParamsFollow n ps × CountOn (past_params n ps) more
params_follow n [] more h = (tt, h)
params_follow n (p ∷ ps) more h = let rest = params_follow (n + 1) ps more h.1 in ((h.0, rest.0), rest.1)

lines_follow : (n : ℕ) (ls : List Line) (more : List ℕ) → CountOn n (line_numbers ls ++ more) → LinesFollow n ls × CountOn (past_lines n ls) more
lines_follow n [] more h = (tt, h)
lines_follow n (l ∷ ls) more h = by l.local h (lines_follow n ls more) (lines_follow (n + 1) ls more)
  where
    by : (name : Option ℕ) → CountOn n ((local_number name ++ line_numbers ls) ++ more)
        → (CountOn n (line_numbers ls ++ more) → LinesFollow n ls × CountOn (past_lines n ls) more)
        → (CountOn (n + 1) (line_numbers ls ++ more) → LinesFollow (n + 1) ls × CountOn (past_lines (n + 1) ls) more)
        → (ResultFollows n name × LinesFollow (past n name) ls) × CountOn (past_lines (past n name) ls) more
    by None h here next = let rest = here h in ((tt, rest.0), rest.1)
    by (Some x) h here next = let rest = next h.1 in ((h.0, rest.0), rest.1)

stated_numbers : (ps : List Phi) (ls : List Line) → phi_numbers ps ++ line_numbers ls ≡ line_numbers (map phi_as_line ps ++ ls)
stated_numbers [] ls = refl
stated_numbers (p ∷ ps) ls = ap (λ (xs : List ℕ). p.local ∷ xs) (stated_numbers ps ls)

blocks_follow : (n : ℕ) (bs : List Block) → CountOn n (blocks_numbers bs) → BlocksFollow n bs
unfolding block_numbers
blocks_follow n [] h = tt
blocks_follow n (b ∷ bs) h =
    let rest = lines_follow (n + 1) (stated b) (blocks_numbers bs) (subst (λ (xs : List ℕ). CountOn (n + 1) (xs ++ blocks_numbers bs)) (stated_numbers b.phis b.lines) h.1) in
    ((h.0, rest.0), blocks_follow (past_lines (n + 1) (stated b)) bs rest.1)

numbered : (f : Function) → CountOn 0 (numbers_of f) → IsNumbered f
numbered f h = let rest = params_follow 0 f.params (blocks_numbers f.blocks) h in (rest.0, blocks_follow (past_params 0 f.params) f.blocks rest.1)

-- by places
counts : (n : ℕ) (xs : List ℕ) → ((i x : ℕ) → slice_get xs i ≡ Some x → x ≡ n + i) → CountOn n xs
counts n [] h = tt
counts n (x ∷ xs) h = (h 0 x refl ∙ omega arith, counts (n + 1) xs (λ i y e. (let at : y ≡ n + suc i = h (suc i) y e in omega (arith, at))))

-- ---- the numbers of a function under other numbers

params_under : (new : ℕ → ℕ) (ps : List Param) → param_numbers (map (param_edited new) ps) ≡ map new (param_numbers ps)
params_under new [] = refl
params_under new (p ∷ ps) = ap (λ (l : List ℕ). new p.local ∷ l) (params_under new ps)

phis_under : (new : ℕ → ℕ) (ps : List Phi) → phi_numbers (map (phi_edited new (operand_renamed new)) ps) ≡ map new (phi_numbers ps)
phis_under new [] = refl
phis_under new (p ∷ ps) = ap (λ (l : List ℕ). new p.local ∷ l) (phis_under new ps)

local_under : (new : ℕ → ℕ) (o : Option ℕ) → local_number (option_map new o) ≡ map new (local_number o)
local_under new None = refl
local_under new (Some x) = refl

lines_under : (new : ℕ → ℕ) (ls : List Line) → line_numbers (map (line_edited new (operand_renamed new)) ls) ≡ map new (line_numbers ls)
lines_under new [] = refl
lines_under new (l ∷ ls) = (λ i. local_under new l.local i ++ lines_under new ls i) ∙ sym (map-append new (local_number l.local) (line_numbers ls))

block_numbers_under : (new : ℕ → ℕ) (b : Block) → block_numbers (block_edited new (operand_renamed new) b) ≡ map new (block_numbers b)
unfolding block_numbers
block_numbers_under new b = ap (λ (l : List ℕ). new b.number ∷ l) ((λ i. phis_under new b.phis i ++ lines_under new b.lines i) ∙ sym (map-append new (phi_numbers b.phis) (line_numbers b.lines)))

blocks_under : (new : ℕ → ℕ) (bs : List Block) → blocks_numbers (map (block_edited new (operand_renamed new)) bs) ≡ map new (blocks_numbers bs)
blocks_under new [] = refl
blocks_under new (b ∷ bs) = (λ i. block_numbers_under new b i ++ blocks_under new bs i) ∙ sym (map-append new (block_numbers b) (blocks_numbers bs))

numbers_under : (new : ℕ → ℕ) (f : Function) → numbers_of (renamed new f) ≡ map new (numbers_of f)
numbers_under new f = (λ i. params_under new f.params i ++ blocks_under new f.blocks i) ∙ sym (map-append new (param_numbers f.params) (blocks_numbers f.blocks))

-- ---- numbered anew

one_number : (a b : ℕ) → Some a ≡ Some b → a ≡ b
one_number a b e = cc

in_order : TextOrderCounts → (f : Function) → Formed f → (i y : ℕ) → slice_get (numbers_of (in_text_order f)) i ≡ Some y → y ≡ 0 + i
in_order counted f formed i y e = by (slice_get (numbers_of f) i) refl (sym (ap (λ (l : List ℕ). slice_get l i) (numbers_under new f) ∙ slice_get-map new (numbers_of f) i) ∙ e)
  where
    new : ℕ → ℕ
    new = new_number (numbers_of f)

    by : (o : Option ℕ) → slice_get (numbers_of f) i ≡ o → option_map new o ≡ Some y → y ≡ 0 + i
    by None g h = absurd cc
    by (Some x) g h = one_number y i (sym e ∙ counted f formed i x g) ∙ omega arith

pub text_order_numbered : TextOrderCounts → (f : Function) → Formed f → IsNumbered (in_text_order f)
text_order_numbered counted f formed = numbered (in_text_order f) (counts 0 (numbers_of (in_text_order f)) (in_order counted f formed))
