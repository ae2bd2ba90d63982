-- The items of a block, by their numbers among those of the function.
use Rattle.std.proofs.Common.{◌≡◌, ℕ, zero, suc, ◌+◌, ◌≤◌, ◌-◌, List, [], ◌∷◌, ◌++◌, length, drop, refl, sym, ap, ◌∙◌, arith}
use Rattle.std.specs.Prelude.{map, slice_get, Option, Some}
use Rattle.std.proofs.lemmas.Option.{same_Some}
use Rattle.ir_tree.specs.declared.block.Block.{Block}
use Rattle.ir_tree.specs.declared.function.Function.{Function}
use Rattle.ir_tree.specs.declared.instr.Line.{Line}
use Rattle.ir_tree.specs.declared.instr.Phi.{Phi}
use Rattle.ir_tree.specs.Items.{Item, phi_item, line_item, end_item, lines_from, block_items, items_from, items}
use Rattle.std.proofs.lemmas.Grind.{common_steps}
use Rattle.ir_verify.specs.Standing.{Stands}

got_drop : {X : Type 0} (xs : List X) (n j : ℕ) → slice_get (drop n xs) j ≡ slice_get xs (n + j)
got_drop xs zero j = ap (slice_get xs) (omega arith)
got_drop [] (suc n) j = refl
got_drop (x ∷ xs) (suc n) j = let e : suc (n + j) ≡ suc n + j = omega arith in got_drop xs n j ∙ ap (slice_get (x ∷ xs)) e

pub got_left : {X : Type 0} (xs ys : List X) (j : ℕ) (x : X) → slice_get xs j ≡ Some x → slice_get (xs ++ ys) j ≡ Some x
got_left [] ys j x e = absurd (cc e)
got_left (z ∷ xs) ys zero x e = e
got_left (z ∷ xs) ys (suc j) x e = got_left xs ys j x e

pub got_right : {X : Type 0} (xs ys : List X) (j : ℕ) → slice_get (xs ++ ys) (length xs + j) ≡ slice_get ys j
got_right [] ys j = ap (slice_get ys) (omega arith)
got_right (z ∷ xs) ys j = let e : suc (length xs) + j ≡ suc (length xs + j) = omega arith in ap (slice_get (z ∷ (xs ++ ys))) e ∙ got_right xs ys j

got_map : {X Y : Type 0} (g : X → Y) (xs : List X) (j : ℕ) (x : X) → slice_get xs j ≡ Some x → slice_get (map g xs) j ≡ Some (g x)
got_map g [] j x e = absurd (cc e)
got_map g (z ∷ xs) zero x e = let s = same_Some z x e in ap (λ w. Some (g w)) s
got_map g (z ∷ xs) (suc j) x e = got_map g xs j x e

got_line : (b n : ℕ) (ls : List Line) (k m : ℕ) (l : Line) → slice_get ls k ≡ Some l → m ≡ n + k → slice_get (lines_from b n ls) k ≡ Some (line_item b m l)
got_line b n [] k m l e q = absurd (cc e)
got_line b n (z ∷ ls) zero m l e q =
    let s = same_Some z l e in
    let p : n ≡ m = omega arith in
    ap (λ (i : ℕ). Some (line_item b i z)) p ∙ ap (λ (w : Line). Some (line_item b m w)) s
got_line b n (z ∷ ls) (suc k) m l e q = got_line b (suc n) ls k m l e (omega arith)

length_map : {X Y : Type 0} (g : X → Y) (xs : List X) → length (map g xs) ≡ length xs
length_map g [] = refl
length_map g (x ∷ xs) = ap suc (length_map g xs)

pub length_lines : (b n : ℕ) (ls : List Line) → length (lines_from b n ls) ≡ length ls
length_lines b n [] = refl
length_lines b n (l ∷ ls) = ap suc (length_lines b (suc n) ls)

module _ (f : Function) (b : ℕ) (block : Block) (at : ℕ) (h : Stands f b block at) where
  here : (j : ℕ) (item : Item) → slice_get (block_items b block) j ≡ Some item → slice_get (items f) (at + j) ≡ Some item
  here j item e = sym (got_drop (items f) at j) ∙ ap (λ (xs : List Item). slice_get xs j) h.items ∙ got_left (block_items b block) h.rest j item e

  pub phi_stands : (j : ℕ) (p : Phi) → slice_get block.phis j ≡ Some p → slice_get (items f) (at + j) ≡ Some (phi_item b p)
  phi_stands j p e = here j (phi_item b p) (got_left (map (phi_item b) block.phis) (lines_from b 0 block.lines ++ end_item b block.end ∷ []) j (phi_item b p) (got_map (phi_item b) block.phis j p e))

  behind : (j : ℕ) (item : Item) → slice_get (lines_from b 0 block.lines ++ end_item b block.end ∷ []) j ≡ Some item → slice_get (items f) (at + length block.phis + j) ≡ Some item
  behind j item e =
      ap (slice_get (items f)) (let l = length_map (phi_item b) block.phis in omega (arith, l))
      ∙ here (length (map (phi_item b) block.phis) + j) item (got_right (map (phi_item b) block.phis) (lines_from b 0 block.lines ++ end_item b block.end ∷ []) j ∙ e)

  pub line_stands : (k : ℕ) (l : Line) → slice_get block.lines k ≡ Some l → slice_get (items f) (at + length block.phis + k) ≡ Some (line_item b k l)
  line_stands k l e = behind k (line_item b k l) (got_left (lines_from b 0 block.lines) (end_item b block.end ∷ []) k (line_item b k l) (got_line b 0 block.lines k k l e (omega arith)))

  pub end_stands : slice_get (items f) (at + length block.phis + length block.lines) ≡ Some (end_item b block.end)
  end_stands =
      ap (slice_get (items f)) (let l = length_lines b 0 block.lines in omega (arith, l))
      ∙ behind (length (lines_from b 0 block.lines) + 0) (end_item b block.end) (got_right (lines_from b 0 block.lines) (end_item b block.end ∷ []) 0)

drop_drop : {X : Type 0} (xs : List X) (n m : ℕ) → drop m (drop n xs) ≡ drop (n + m) xs
drop_drop xs zero m = ap (λ (i : ℕ). drop i xs) (omega arith)
drop_drop [] (suc n) m = grind (arith, common_steps)
drop_drop (x ∷ xs) (suc n) m = let e : suc (n + m) ≡ suc n + m = omega arith in drop_drop xs n m ∙ ap (λ (i : ℕ). drop i (x ∷ xs)) e

drop_front : {X : Type 0} (xs ys : List X) → drop (length xs) (xs ++ ys) ≡ ys
drop_front [] ys = refl
drop_front (x ∷ xs) ys = drop_front xs ys

-- the items of the blocks from one on stand from here on
pub Onward : Function → ℕ → ℕ → Type 0
Onward f b at = drop at (items f) ≡ items_from b (drop b f.blocks)

pub onward_start : (f : Function) → Onward f 0 0
unfolding Onward
onward_start f = refl

drop_got : {X : Type 0} (xs : List X) (i : ℕ) (x : X) → slice_get xs i ≡ Some x → drop i xs ≡ x ∷ drop (suc i) xs
drop_got [] i x e = absurd (cc e)
drop_got (z ∷ xs) zero x e = let s = same_Some z x e in ap (λ w. w ∷ xs) s
drop_got (z ∷ xs) (suc i) x e = drop_got xs i x e

pub onward_stands : (f : Function) (b at : ℕ) (block : Block) → slice_get f.blocks b ≡ Some block → Onward f b at → Stands f b block at
unfolding Onward
onward_stands f b at block got h = record { got = got; rest = items_from (suc b) (drop (suc b) f.blocks); items = h ∙ ap (items_from b) (drop_got f.blocks b block got) }

length_append : {X : Type 0} (xs ys : List X) → length (xs ++ ys) ≡ length xs + length ys
length_append xs ys = grind (arith, common_steps)

pub onward_next : (f : Function) (b at : ℕ) (block : Block) → slice_get f.blocks b ≡ Some block → Onward f b at → Onward f (b + 1) (at + length block.phis + length block.lines + 1)
unfolding Onward
onward_next f b at block got h =
    let l = length_map (phi_item b) block.phis in
    let m = length_lines b 0 block.lines in
    let n = length_append (map (phi_item b) block.phis) (lines_from b 0 block.lines ++ end_item b block.end ∷ []) in
    let o = length_append (lines_from b 0 block.lines) (end_item b block.end ∷ []) in
    let long : at + length block.phis + length block.lines + 1 ≡ at + length (block_items b block) = omega (arith, l, m, n, o) in
    let next : suc b ≡ b + 1 = omega arith in
    let whole = h ∙ ap (items_from b) (drop_got f.blocks b block got) in
    ap (λ (i : ℕ). drop i (items f)) long
    ∙ sym (drop_drop (items f) at (length (block_items b block)))
    ∙ ap (drop (length (block_items b block))) whole
    ∙ drop_front (block_items b block) (items_from (suc b) (drop (suc b) f.blocks))
    ∙ ap (λ (i : ℕ). items_from i (drop i f.blocks)) next

pub onward_all : (f : Function) (b at : ℕ) → length f.blocks ≤ b → Onward f b at → length (items f) ≤ at
unfolding Onward
onward_all f b at l h =
    let none : drop b f.blocks ≡ [] = grind (arith, common_steps) in
    let e = ap length (h ∙ ap (items_from b) none) in
    let d : length (drop at (items f)) ≡ length (items f) - at = grind (arith, common_steps) in
    omega (arith, e, d)
