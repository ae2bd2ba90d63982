-- What is defined at a place of the text gets the place as its number.
use Rattle.std.proofs.Common.{◌≡◌, ℕ, zero, suc, ◌+◌, ◌≤◌, ◌==◌, nat_eq, Bool, true, false, List, [], ◌∷◌, ◌++◌, Option, Some, None, map, option_map, length, refl, sym, ◌∙◌, ap, arith, if◌then◌else◌}
use Rattle.std.specs.Prelude.{slice_get, flat_map}
use Rattle.std.specs.List.{cons_option}
use Rattle.std.proofs.lemmas.Bool.Decides.{nat_tests}
use Rattle.std.proofs.lemmas.List.{map-append}
use Rattle.std.proofs.lemmas.Option.{slice_get-map}
use Rattle.ir_tree.specs.Flow.{definitions, locals, parameters, results}
use Rattle.ir_tree.specs.Formed.{Formed, numbers}
use Rattle.ir_tree.specs.declared.block.Block.{Block}
use Rattle.ir_tree.specs.declared.function.Function.{Function}
use Rattle.ir_tree.specs.declared.function.Param.{Param}
use Rattle.ir_tree.specs.declared.instr.Line.{Line}
use Rattle.ir_tree.specs.declared.instr.Phi.{Phi}
use Rattle.ir_tree.specs.Edited.{param_edited, renamed}
use Rattle.ir_edit.specs.InOrder.{TextOrderCounts}
use Rattle.ir_edit.specs.Numbered.{block_numbers, blocks_numbers, later_or, line_numbers, local_number, new_number, numbers_of, or_behind, param_numbers, phi_numbers, place_from}
use Rattle.ir_edit.proofs.RenamedParts.{block_under, line_under, phi_under}
use Rattle.ir_edit.proofs.Tally.{tally, tally_both, tally_once, tally_same}

-- ---- the place of a number that stands once

is_same : (x : ℕ) → (x == x) ≡ true
is_same x = grind (arith, nat_tests)

not_placed : (n : ℕ) (ys : List ℕ) (x : ℕ) → tally x ys ≡ 0 → place_from n ys x ≡ None
not_placed n [] x none = refl
not_placed n (y ∷ ys) x none =
    (λ i. later_or (not_placed (n + 1) ys x (omega (arith, none)) i) (if differs (nat_eq x y) refl i then Some n else None))
  where
    flipped : (x y : ℕ) → nat_eq x y ≡ false → (y == x) ≡ false
    flipped x y h = grind (arith, nat_tests)

    same : (x y : ℕ) → nat_eq x y ≡ true → x ≡ y
    same x y h = grind (arith, nat_tests)

    differs : (b : Bool) → nat_eq x y ≡ b → (y == x) ≡ false
    differs false e = flipped x y e
    differs true e = absurd (let one : 1 ≤ (if nat_eq x y then 1 else 0) = tally_same x y (same x y e) in omega (arith, one, none))

placed_at : (n : ℕ) (ys : List ℕ) (x i : ℕ) → tally x ys ≤ 1 → slice_get ys i ≡ Some x → place_from n ys x ≡ Some (n + i)
placed_at n [] x i once e = absurd cc
placed_at n (y ∷ ys) x zero once e =
    let same : x ≡ y = sym cc in
    let one : 1 ≤ (if nat_eq x y then 1 else 0) = tally_same x y same in
    (λ i. later_or (not_placed (n + 1) ys x (omega (arith, once, one)) i) (if (y == x) then Some n else None))
    ∙ ap (λ (z : ℕ). if z == x then Some n else None) (sym same)
    ∙ ap (λ (b : Bool). if b then Some n else None) (is_same x)
    ∙ ap (λ (k : ℕ). Some k) (omega arith)
placed_at n (y ∷ ys) x (suc i) once e =
    ap (λ (o : Option ℕ). later_or o (if (y == x) then Some n else None)) (placed_at (n + 1) ys x i (omega (arith, once)) e) ∙ ap (λ (k : ℕ). Some k) (omega arith)

number_at : (numbers : List ℕ) (x i : ℕ) → tally x numbers ≤ 1 → slice_get numbers i ≡ Some x → new_number numbers x ≡ i
unfolding new_number
number_at numbers x i once e = ap (λ (o : Option ℕ). or_behind o (x + length numbers)) (placed_at 0 numbers x i once e) ∙ omega arith

-- ---- the numbers of a function under other numbers

params_under : (new : ℕ → ℕ) (ps : List Param) → param_numbers (map (param_edited new) ps) ≡ map new (param_numbers ps)
params_under new [] = refl
params_under new (p ∷ ps) = ap (λ (l : List ℕ). new p.local ∷ l) (params_under new ps)

phis_under : (new : ℕ → ℕ) (ps : List Phi) → phi_numbers (map (phi_under new) ps) ≡ map new (phi_numbers ps)
phis_under new [] = refl
phis_under new (p ∷ ps) = ap (λ (l : List ℕ). new p.local ∷ l) (phis_under new ps)

local_under : (new : ℕ → ℕ) (o : Option ℕ) → local_number (option_map new o) ≡ map new (local_number o)
local_under new None = refl
local_under new (Some x) = refl

lines_under : (new : ℕ → ℕ) (ls : List Line) → line_numbers (map (line_under new) ls) ≡ map new (line_numbers ls)
lines_under new [] = refl
lines_under new (l ∷ ls) = (λ i. local_under new l.local i ++ lines_under new ls i) ∙ sym (map-append new (local_number l.local) (line_numbers ls))

one_block_under : (new : ℕ → ℕ) (b : Block) → block_numbers (block_under new b) ≡ map new (block_numbers b)
unfolding block_numbers
one_block_under new b = ap (λ (l : List ℕ). new b.number ∷ l) ((λ i. phis_under new b.phis i ++ lines_under new b.lines i) ∙ sym (map-append new (phi_numbers b.phis) (line_numbers b.lines)))

blocks_under : (new : ℕ → ℕ) (bs : List Block) → blocks_numbers (map (block_under new) bs) ≡ map new (blocks_numbers bs)
blocks_under new [] = refl
blocks_under new (b ∷ bs) = (λ i. one_block_under new b i ++ blocks_under new bs i) ∙ sym (map-append new (block_numbers b) (blocks_numbers bs))

numbers_of_under : (new : ℕ → ℕ) (f : Function) → numbers_of (renamed new f) ≡ map new (numbers_of f)
numbers_of_under new f = (λ i. params_under new f.params i ++ blocks_under new f.blocks i) ∙ sym (map-append new (param_numbers f.params) (blocks_numbers f.blocks))

-- ---- they are the locals and the numbers of the blocks

pub params_are : (ps : List Param) → param_numbers ps ≡ map (λ p. p.local) ps
params_are [] = refl
params_are (p ∷ ps) = ap (λ (l : List ℕ). p.local ∷ l) (params_are ps)

phis_are : (ps : List Phi) → phi_numbers ps ≡ map (λ p. p.local) ps
phis_are [] = refl
phis_are (p ∷ ps) = ap (λ (l : List ℕ). p.local ∷ l) (phis_are ps)

named_is : (o : Option ℕ) (xs : List ℕ) → local_number o ++ xs ≡ cons_option o xs
named_is None xs = refl
named_is (Some x) xs = refl

lines_are : (ls : List Line) → line_numbers ls ≡ results ls
lines_are [] = refl
lines_are (l ∷ ls) = ap (λ (r : List ℕ). local_number l.local ++ r) (lines_are ls) ∙ named_is l.local (results ls)

block_tally : (x : ℕ) (b : Block) → tally x (block_numbers b) ≡ (if nat_eq x b.number then 1 else 0) + tally x (definitions b)
unfolding block_numbers
block_tally x b = ap (λ (l : List ℕ). (if nat_eq x b.number then 1 else 0) + tally x l) (λ i. phis_are b.phis i ++ lines_are b.lines i)

pub blocks_tally : (x : ℕ) (bs : List Block) → tally x (blocks_numbers bs) ≡ tally x (flat_map definitions bs) + tally x (map (λ b. b.number) bs)
blocks_tally x [] = omega arith
blocks_tally x (b ∷ bs) =
    let here : tally x (block_numbers b) ≡ (if nat_eq x b.number then 1 else 0) + tally x (definitions b) = block_tally x b in
    let more : tally x (blocks_numbers bs) ≡ tally x (flat_map definitions bs) + tally x (map (λ b. b.number) bs) = blocks_tally x bs in
    let left : tally x (block_numbers b ++ blocks_numbers bs) ≡ tally x (block_numbers b) + tally x (blocks_numbers bs) = tally_both x (block_numbers b) (blocks_numbers bs) in
    let right : tally x (definitions b ++ flat_map definitions bs) ≡ tally x (definitions b) + tally x (flat_map definitions bs) = tally_both x (definitions b) (flat_map definitions bs) in
    omega (arith, here, more, left, right)

once_each : (f : Function) → Formed f → (x : ℕ) → tally x (numbers_of f) ≤ 1
once_each f formed x =
    let most : tally x (locals f ++ numbers f) ≤ 1 = tally_once x (locals f ++ numbers f) formed.once in
    let all : tally x (locals f ++ numbers f) ≡ tally x (locals f) + tally x (numbers f) = tally_both x (locals f) (numbers f) in
    let parts : tally x (locals f) ≡ tally x (parameters f) + tally x (flat_map definitions f.blocks) = tally_both x (parameters f) (flat_map definitions f.blocks) in
    let here : tally x (numbers_of f) ≡ tally x (param_numbers f.params) + tally x (blocks_numbers f.blocks) = tally_both x (param_numbers f.params) (blocks_numbers f.blocks) in
    let params : tally x (param_numbers f.params) ≡ tally x (parameters f) = ap (tally x) (params_are f.params) in
    let blocks : tally x (blocks_numbers f.blocks) ≡ tally x (flat_map definitions f.blocks) + tally x (numbers f) = blocks_tally x f.blocks in
    omega (arith, most, all, parts, here, params, blocks)

pub text_order_counts : TextOrderCounts
text_order_counts f formed i x e =
    ap (λ (l : List ℕ). slice_get l i) (numbers_of_under (new_number (numbers_of f)) f)
    ∙ slice_get-map (new_number (numbers_of f)) (numbers_of f) i
    ∙ ap (option_map (new_number (numbers_of f))) e
    ∙ ap (λ (k : ℕ). Some k) (number_at (numbers_of f) x i (once_each f formed x) e)
