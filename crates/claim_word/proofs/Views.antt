-- Facts of each view, and of the bits of passes that have met the end.
use Rattle.std.proofs.Common.{◌≡◌, ◌≢◌, ℕ, zero, suc, ◌+◌, ◌<◌, ◌≤◌, Bool, true, false, List, [], ◌∷◌, ◌++◌, length, set, max, sym, refl, ap, ◌∙◌, subst, ⊎_elim, arith, length-append}
use Rattle.std.proofs.lemmas.Bool.{cases_lt, cases_eq}
use mathlib.Core.Option.{some, some-ne-none}
use lib.ListN.{get_elem?}
use Rattle.atomic_table.specs.Table.{State, Me}
use Rattle.atomic_table.proofs.Lists.{at_set, at_snoc}
use Rattle.claim_word.specs.declared.view.Draws.{Draws}
use Rattle.claim_word.specs.Counting.{times}
use Rattle.claim_word.specs.Views.{both_draws, knows, kept_part, cut_part, head_of, tail_of}
use Rattle.claim_word.specs.Rule.{times_held, bits_held, bits_ended, ClaimRule}
use Rattle.claim_word.proofs.Tallies.{sum_at, sum_two, times_same, times_other}

abbrev pub M : Type 0
M = Me (Unit {0}) Draws

abbrev pub St : Type 0
St = State (Unit {0}) Draws

-- what holds of each view holds after one has changed
pub each_set : (P : ℕ → Draws → Type 0) (views : List Draws) (id : ℕ) (w : Draws) → P id w → ((j : ℕ) (u : Draws) → j ≢ id → get_elem? views j ≡ some u → P j u)
    → (j : ℕ) (u : Draws) → get_elem? (set views id w) j ≡ some u → P j u
each_set P views id w mine others j u e = ⊎_elim
    (λ (t : (j ≡ id) × (w ≡ u)). subst (λ (z : ℕ × Draws). P z.0 z.1) (λ i. (sym t.0 i, t.1 i)) mine)
    (λ (t : (j ≢ id) × (get_elem? views j ≡ some u)). others j u t.0 t.1)
    (at_set views id j w u e)

-- what holds of each view holds after one more was added
pub each_push : (P : Draws → Type 0) (views : List Draws) (w : Draws) → P w → ((j : ℕ) (u : Draws) → get_elem? views j ≡ some u → P u) → (j : ℕ) (u : Draws) → get_elem? (views ++ w ∷ []) j ≡ some u → P u
each_push P views w mine others j u e = ⊎_elim
    (λ (there : get_elem? views j ≡ some u). others j u there)
    (λ (is : w ≡ u). subst P is mine)
    (at_snoc views w u j e)

pub set_at : (l : List Draws) (i : ℕ) (a b : Draws) → get_elem? l i ≡ some a → get_elem? (set l i b) i ≡ some b
set_at [] i a b e = absurd (some-ne-none a (sym e))
set_at (x ∷ xs) zero a b e = refl
set_at (x ∷ xs) (suc i) a b e = set_at xs i a b e

-- a list, its head and the others
pub length_cut : (xs : List ℕ) → length (tail_of xs) + length (head_of xs) ≡ length xs
length_cut [] = refl
length_cut (y ∷ ys) = omega arith

pub times_cut : (x : ℕ) (xs : List ℕ) → times x (tail_of xs) + times x (head_of xs) ≡ times x xs
times_cut x [] = refl
times_cut x (y ∷ ys) = omega arith

pub head_small : (xs : List ℕ) → length (head_of xs) ≤ 1
head_small [] = omega arith
head_small (x ∷ xs) = omega arith

pub times_head : (d : ℕ) (ds : List ℕ) → 0 < times d (d ∷ ds)
times_head d ds = let e = times_same d ds in omega arith

pub times_more : (x b : ℕ) (xs : List ℕ) → times x xs ≤ times x (b ∷ xs)
times_more x b xs = ⊎_elim (λ (e : x ≡ b). let h : times x (b ∷ xs) ≡ 1 + times x xs = subst (λ (z : ℕ). times x (z ∷ xs) ≡ 1 + times x xs) e (times_same x xs) in omega arith)
    (λ (ne : x ≡ b → ⊥). let h = times_other x b xs ne in omega arith) (cases_eq x b)

pub has_some : (d : ℕ) (xs : List ℕ) → 0 < times d xs → 0 < length xs
has_some d [] h = absurd (omega arith)
has_some d (x ∷ xs) h = omega arith

ended_le : (v : Draws) (b : Bool) → v.ended ≡ b → bits_ended v ≤ bits_held v
ended_le v true e = rw e (omega arith)
ended_le v false e = rw e (omega arith)

pub bits_ended_le : (v : Draws) → bits_ended v ≤ bits_held v
bits_ended_le v = ended_le v v.ended refl

-- a pass with more bits has no fewer past the end
pub ended_more : (v w : Draws) (b : Bool) → v.ended ≡ b → w.ended ≡ b → length v.bits ≤ length w.bits → bits_ended v ≤ bits_ended w
ended_more v w true e d le = rw (e, d) le
ended_more v w false e d le = rw (e, d) (omega arith)

pub ended_cut : (v : Draws) (b : Bool) → v.ended ≡ b → bits_ended (kept_part v) + bits_ended (cut_part v) ≡ bits_ended v
ended_cut v true e = rw e (length_cut v.bits)
ended_cut v false e = rw e refl

pub ended_both : (v w : Draws) (a b : Bool) → v.ended ≡ a → w.ended ≡ b → bits_ended v + bits_ended w ≤ bits_ended (both_draws v w)
ended_both v w true true e d = rw (e, d) (let l = length-append v.bits w.bits in omega arith)
ended_both v w true false e d = rw (e, d) (let l = length-append v.bits w.bits in omega arith)
ended_both v w false true e d = rw (e, d) (let l = length-append v.bits w.bits in omega arith)
ended_both v w false false e d = rw (e, d) (omega arith)

-- a pass that is held was made
pub held_made : (n callers : ℕ) (s : St) (r : ClaimRule n callers s) (id : ℕ) (v : Draws) (d : ℕ) → get_elem? s.views id ≡ some v → 0 < times d v.bits → d < r.made
held_made n callers s r id v d at has = let le = sum_at (times_held d) s.views id v at in ⊎_elim (λ (lt : d < r.made). lt) (λ (ge : r.made ≤ d). absurd (let z = (r.held_once d).1 ge in omega arith)) (cases_lt d r.made)

-- no two passes hold it
pub held_by_one : (n callers : ℕ) (s : St) (r : ClaimRule n callers s) (i j : ℕ) (v u : Draws) (d : ℕ) → j ≢ i → get_elem? s.views i ≡ some v → get_elem? s.views j ≡ some u → 0 < times d v.bits → 0 < times d u.bits → ⊥
held_by_one n callers s r i j v u d ne at there one two = let le = sum_two (times_held d) s.views i j v u ne at there in let z = (r.held_once d).0 (held_made n callers s r i v d at one) in omega arith

-- what a pass that has tried k bits knows
pub knows_none : (v : Draws) → v ≡ knows v 0
knows_none v = let e : v.seen ≡ max v.seen 0 = omega arith in ap (λ (k : ℕ). let z : Draws = record v { seen = k } in z) e

pub knows_more : (v w : Draws) (b : ℕ) → w ≡ knows v b → knows w (b + 1) ≡ knows v (b + 1)
knows_more v w b e = ap (λ (z : Draws). knows z (b + 1)) e ∙ (let m : max (max v.seen b) (b + 1) ≡ max v.seen (b + 1) = omega arith in ap (λ (k : ℕ). let z : Draws = record v { seen = k } in z) m)
