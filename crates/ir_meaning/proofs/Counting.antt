-- Counts over lists of numbers and of edges, and blocks by their numbers and places.
use Rattle.std.proofs.Common.{◌≡◌, ℕ, zero, suc, ◌+◌, ◌≤◌, ◌<◌, nat_eq, Bool, true, false, cond, List, [], ◌∷◌, ◌++◌, Option, Some, None, map, inl, inr, refl, sym, ◌∙◌, ap, subst, arith, if◌then◌else◌}
use Rattle.std.specs.Prelude.{count_by, slice_get}
use Rattle.std.proofs.lemmas.Bool.{eqb-true, eq-eqb, ne_eqb}
use Rattle.std.proofs.lemmas.List.Recursion.{is_count_by}
use Rattle.ir_tree.specs.Flow.{Among, edges, leading, leading_to, repeated, successors}
use Rattle.ir_tree.specs.Formed.{Distinct}
use Rattle.ir_tree.specs.Rules.{place}
use Rattle.ir_tree.specs.declared.block.Block.{Block}
use Rattle.ir_tree.specs.declared.function.Function.{Function}
use Rattle.ir_meaning.specs.Counted.{times}

-- ---- how often a number stands in a list

pub one_more : (b : Bool) (k : ℕ) → (if b then suc k else k) ≡ cond b (1 + k) k
one_more true k = omega arith
one_more false k = refl

pub times_is : (n : ℕ) (xs : List ℕ) → times n xs ≡ count_by (λ x. nat_eq x n) xs
times_is n xs = is_count_by (times n) (λ x. nat_eq x n) refl (λ x xs. one_more (nat_eq x n) (times n xs)) xs

pub times_both : (n : ℕ) (xs ys : List ℕ) → times n (xs ++ ys) ≡ times n xs + times n ys
times_both n [] ys = omega arith
times_both n (x ∷ xs) ys = by (nat_eq x n) (times_both n xs ys)
  where
    by : (t : Bool) → times n (xs ++ ys) ≡ times n xs + times n ys → (if t then suc (times n (xs ++ ys)) else times n (xs ++ ys)) ≡ (if t then suc (times n xs) else times n xs) + times n ys
    by true h = omega (arith, h)
    by false h = h

pub here : (n t : ℕ) (ts : List ℕ) → t ≡ n → 1 ≤ times n (t ∷ ts)
here n t ts e = subst (λ (b : Bool). 1 ≤ (if b then suc (times n ts) else times n ts)) (sym (eq-eqb t n e)) (omega arith)

pub later : (n t : ℕ) (ts : List ℕ) → 1 ≤ times n ts → 1 ≤ times n (t ∷ ts)
later n t ts h = by (nat_eq t n)
  where
    by : (b : Bool) → 1 ≤ (if b then suc (times n ts) else times n ts)
    by true = omega arith
    by false = h

pub among_times : (n : ℕ) (xs : List ℕ) → 1 ≤ times n xs → Among n xs
among_times n [] h = absurd (omega (arith, h))
among_times n (x ∷ xs) h = by (nat_eq x n) refl h (among_times n xs)
  where
    by : (b : Bool) → nat_eq x n ≡ b → 1 ≤ (if b then suc (times n xs) else times n xs) → (1 ≤ times n xs → Among n xs) → Among n (x ∷ xs)
    by true e h more = inl (sym (eqb-true x n e))
    by false e h more = inr (more h)

pub times_repeated : (q k m : ℕ) (ts : List ℕ) → times q (repeated k m ts) ≡ (if nat_eq k q then times m ts else 0)
times_repeated q k m [] = by (nat_eq k q)
  where
    by : (b : Bool) → times q [] ≡ (if b then times m [] else 0)
    by true = refl
    by false = refl
times_repeated q k m (t ∷ ts) = by (nat_eq t m) (nat_eq k q) refl (times_repeated q k m ts)
  where
    by : (u v : Bool) → nat_eq k q ≡ v → times q (repeated k m ts) ≡ (if v then times m ts else 0)
        → times q (if u then k ∷ repeated k m ts else repeated k m ts) ≡ (if v then (if u then suc (times m ts) else times m ts) else 0)
    by true true e h = ap (λ (b : Bool). if b then suc (times q (repeated k m ts)) else times q (repeated k m ts)) e ∙ ap suc h
    by true false e h = ap (λ (b : Bool). if b then suc (times q (repeated k m ts)) else times q (repeated k m ts)) e ∙ h
    by false true e h = h
    by false false e h = h

-- ---- edges into a block

-- how many edges lead from a block to the block m
abbrev pub out_to : ℕ → Option Block → ℕ
out_to m None = 0
out_to m (Some b) = times m (successors b.end)

none_before : (q s m : ℕ) (bs : List Block) → q < s → times q (leading m s bs) ≡ 0
none_before q s m [] lt = refl
none_before q s m (b ∷ bs) lt =
    times_both q (repeated s m (successors b.end)) (leading m (suc s) bs)
    ∙ sum (times_repeated q s m (successors b.end) ∙ ap (λ (t : Bool). if t then times m (successors b.end) else 0) (ne_eqb s q (λ e. omega (arith, e, lt)))) (none_before q (suc s) m bs (omega (arith, lt)))
  where
    sum : {x y : ℕ} → x ≡ 0 → y ≡ 0 → x + y ≡ 0
    sum e g = omega (arith, e, g)

from_place : (s m : ℕ) (bs : List Block) (i : ℕ) → times (s + i) (leading m s bs) ≡ out_to m (slice_get bs i)
from_place s m [] i = refl
from_place s m (b ∷ bs) zero =
    times_both (s + 0) (repeated s m (successors b.end)) (leading m (suc s) bs)
    ∙ sum (times_repeated (s + 0) s m (successors b.end) ∙ ap (λ (t : Bool). if t then times m (successors b.end) else 0) (eq-eqb s (s + 0) (omega arith))) (none_before (s + 0) (suc s) m bs (omega arith))
  where
    sum : {x y z : ℕ} → x ≡ z → y ≡ 0 → x + y ≡ z
    sum e g = omega (arith, e, g)
from_place s m (b ∷ bs) (suc i) =
    times_both (s + suc i) (repeated s m (successors b.end)) (leading m (suc s) bs)
    ∙ sum (times_repeated (s + suc i) s m (successors b.end) ∙ ap (λ (t : Bool). if t then times m (successors b.end) else 0) (ne_eqb s (s + suc i) (λ e. omega (arith, e))))
    (ap (λ (q : ℕ). times q (leading m (suc s) bs)) (omega arith) ∙ from_place (suc s) m bs i)
  where
    sum : {x y z : ℕ} → x ≡ 0 → y ≡ z → x + y ≡ z
    sum e g = omega (arith, e, g)

-- how often a place is among the predecessor edges of a block
pub edges_from : (f : Function) (b : ℕ) (block : Block) → slice_get f.blocks b ≡ Some block → (i : ℕ) → times i (edges f b) ≡ out_to block.number (slice_get f.blocks i)
edges_from f b block found i =
    ap (λ (o : Option Block). times i (leading_to f.blocks o)) found ∙ ap (λ (q : ℕ). times q (leading block.number 0 f.blocks)) (omega arith) ∙ from_place 0 block.number f.blocks i

-- ---- numbers and places of blocks

abbrev pub numbers_in : List Block → List ℕ
numbers_in bs = map (λ b. b.number) bs

pub distinct_rest : (x : ℕ) (xs : List ℕ) → Distinct (x ∷ xs) → Distinct xs
distinct_rest x xs d = λ i j y e g. let h : suc i ≡ suc j = d (suc i) (suc j) y e g in omega (arith, h)

pub number_at : (bs : List Block) (i : ℕ) (b : Block) → slice_get bs i ≡ Some b → slice_get (numbers_in bs) i ≡ Some b.number
number_at [] i b e = absurd cc
number_at (x ∷ bs) zero b e = let same : x ≡ b = cc e in ap (λ (y : Block). Some y.number) same
number_at (x ∷ bs) (suc i) b e = number_at bs i b e

-- a number that stands in front doesn't stand again
pub not_again : (x : ℕ) (xs : List ℕ) → Distinct (x ∷ xs) → (j y : ℕ) → slice_get xs j ≡ Some y → nat_eq x y ≡ false
not_again x xs d j y e = ne_eqb x y (λ s. let h : 0 ≡ suc j = d 0 (suc j) y (ap (λ (n : ℕ). Some n) s) e in omega (arith, h))

-- the block at a place is the first of its number
pub place_is : (bs : List Block) → Distinct (numbers_in bs) → (i : ℕ) (b : Block) → slice_get bs i ≡ Some b → place bs b.number ≡ i
place_is [] d i b e = absurd cc
place_is (x ∷ bs) d zero b e = let same : x ≡ b = cc e in ap (λ (t : Bool). if t then zero else suc (place bs b.number)) (eq-eqb x.number b.number (ap (λ (y : Block). y.number) same))
place_is (x ∷ bs) d (suc i) b e =
    ap (λ (t : Bool). if t then zero else suc (place bs b.number)) (not_again x.number (numbers_in bs) d i b.number (number_at bs i b e))
    ∙ ap suc (place_is bs (distinct_rest x.number (numbers_in bs) d) i b e)

pub number_is : (bs : List Block) (n i : ℕ) (b : Block) → place bs n ≡ i → slice_get bs i ≡ Some b → b.number ≡ n
number_is [] n i b p e = absurd cc
number_is (x ∷ bs) n i b p e = by (nat_eq x.number n) refl p e (number_is bs n (place bs n) b refl)
  where
    by : (t : Bool) → nat_eq x.number n ≡ t → (if t then zero else suc (place bs n)) ≡ i → slice_get (x ∷ bs) i ≡ Some b → (slice_get bs (place bs n) ≡ Some b → b.number ≡ n) → b.number ≡ n
    by true h p e more =
        let first : slice_get (x ∷ bs) 0 ≡ Some b = ap (slice_get (x ∷ bs)) p ∙ e in
        let same : x ≡ b = cc first in
        ap (λ (y : Block). y.number) (sym same) ∙ eqb-true x.number n h
    by false h p e more = more (ap (slice_get (x ∷ bs)) p ∙ e)
