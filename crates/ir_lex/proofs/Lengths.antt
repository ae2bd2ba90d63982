-- No row takes more than there is.
use Rattle.std.proofs.Common.{◌≡◌, ℕ, suc, ◌≤◌, ◌<◌, Bool, true, false, ◌&&◌, cond, nat_lt, nat_eq, max, List, [], ◌∷◌, length, drop, refl, arith}
use Rattle.std.proofs.lemmas.List.{length-drop}
use Rattle.ir_lex.specs.declared.bytes.Set.{Set}
use Rattle.ir_lex.specs.declared.bytes.Set.TheVariants.{Digits, LabelBytes, WordBytes, MetaBytes, Inside}
use Rattle.ir_lex.specs.declared.rows.Fit.{Fit}
use Rattle.ir_lex.specs.Bytes.{has, run}
use Rattle.ir_lex.specs.Rows.{best_fit, rest_fit, better, begins, behind, closed, string_len, before_colon, label_len, number_len, word_len, bare_len, name_len, meta_len, dots_len, other_len}

run_le : (set : Set) (bs : List ℕ) → run set bs ≤ length bs
run_le set [] = omega arith
run_le set (b ∷ bs) = by_test (has set b) (run_le set bs)
  where
    by_test : (t : Bool) → run set bs ≤ length bs → cond t (suc (run set bs)) 0 ≤ length (b ∷ bs)
    by_test true h = omega arith
    by_test false h = omega arith

behind_le : (c : ℕ) (len : List ℕ → ℕ) (bs : List ℕ) → ((cs : List ℕ) → len cs ≤ length cs) → behind c len bs ≤ length bs
behind_le c len [] h = omega arith
behind_le c len (b ∷ bs) h = by_test (nat_eq b c && nat_lt 0 (len bs)) (h bs)
  where
    by_test : (t : Bool) → len bs ≤ length bs → cond t (suc (len bs)) 0 ≤ length (b ∷ bs)
    by_test true h = omega arith
    by_test false h = omega arith

begins_some : (c : ℕ) (bs : List ℕ) → begins c bs ≡ true → 0 < length bs
begins_some c [] h = absurd cc
begins_some c (b ∷ bs) h = omega arith

closed_le : (n : ℕ) (bs : List ℕ) → closed n bs ≤ suc (length bs)
closed_le n bs = by_test (begins 34 (drop n bs)) refl
  where
    by_test : (t : Bool) → begins 34 (drop n bs) ≡ t → cond t (suc (suc n)) 0 ≤ suc (length bs)
    by_test true h = omega (arith, begins_some 34 (drop n bs) h, length-drop n bs)
    by_test false h = omega arith

string_len_le : (bs : List ℕ) → string_len bs ≤ length bs
unfolding string_len
string_len_le [] = omega arith
string_len_le (b ∷ bs) = by_test (nat_eq b 34)
  where
    by_test : (t : Bool) → cond t (closed (run Inside bs) bs) 0 ≤ suc (length bs)
    by_test true = closed_le (run Inside bs) bs
    by_test false = omega arith

before_colon_le : (n : ℕ) (bs : List ℕ) → before_colon n bs ≤ length bs
before_colon_le n bs = by_test (nat_lt 0 n) (begins 58 (drop n bs)) refl
  where
    by_test : (s t : Bool) → begins 58 (drop n bs) ≡ t → cond (s && t) (suc n) 0 ≤ length bs
    by_test true true h = omega (arith, begins_some 58 (drop n bs) h, length-drop n bs)
    by_test true false h = omega arith
    by_test false t h = omega arith

max_le : (a b c : ℕ) → a ≤ c → b ≤ c → max a b ≤ c
max_le a b c h i = omega arith

label_len_le : (bs : List ℕ) → label_len bs ≤ length bs
unfolding label_len
label_len_le bs = max_le _ _ _ (before_colon_le (run LabelBytes bs) bs) (before_colon_le (string_len bs) bs)

number_len_le : (bs : List ℕ) → number_len bs ≤ length bs
unfolding number_len
number_len_le bs = max_le _ _ _ (run_le Digits bs) (behind_le 45 (run Digits) bs (run_le Digits))

starting_le : (t : Bool) (set : Set) (b : ℕ) (bs : List ℕ) → cond t (suc (run set bs)) 0 ≤ length (b ∷ bs)
starting_le true set b bs = omega (arith, run_le set bs)
starting_le false set b bs = omega arith

word_len_le : (bs : List ℕ) → word_len bs ≤ length bs
unfolding word_len
word_len_le [] = omega arith
word_len_le (b ∷ bs) = starting_le _ WordBytes b bs

bare_len_le : (bs : List ℕ) → bare_len bs ≤ length bs
bare_len_le [] = omega arith
bare_len_le (b ∷ bs) = starting_le _ LabelBytes b bs

name_len_le : (bs : List ℕ) → name_len bs ≤ length bs
unfolding name_len
name_len_le bs = max_le _ _ _ (bare_len_le bs) (max_le _ _ _ (run_le Digits bs) (string_len_le bs))

meta_len_le : (bs : List ℕ) → meta_len bs ≤ length bs
unfolding meta_len
meta_len_le [] = omega arith
meta_len_le (b ∷ bs) = starting_le _ MetaBytes b bs

dots_len_le : (bs : List ℕ) → dots_len bs ≤ length bs
unfolding dots_len
dots_len_le bs = by_test (begins 46 bs) (begins 46 (drop 1 bs)) (begins 46 (drop 2 bs)) refl
  where
    by_test : (s t u : Bool) → begins 46 (drop 2 bs) ≡ u → cond (s && (t && u)) 3 0 ≤ length bs
    by_test true true true h = omega (arith, begins_some 46 (drop 2 bs) h, length-drop 2 bs)
    by_test true true false h = omega arith
    by_test true false u h = omega arith
    by_test false t u h = omega arith

other_len_le : (bs : List ℕ) → other_len bs ≤ length bs
unfolding other_len
other_len_le [] = omega arith
other_len_le (b ∷ bs) = by_test _
  where
    by_test : (t : Bool) → cond t 1 0 ≤ length (b ∷ bs)
    by_test true = omega arith
    by_test false = omega arith

better_le : (a b : Fit) (n : ℕ) → a.len ≤ n → b.len ≤ n → (better a b).len ≤ n
better_le a b n h i = by_test (nat_lt a.len b.len)
  where
    by_test : (t : Bool) → (cond t b a).len ≤ n
    by_test true = i
    by_test false = h

pub best_fit_le : (bs : List ℕ) → (best_fit bs).len ≤ length bs
unfolding best_fit rest_fit
best_fit_le bs =
    better_le _ _ _ (label_len_le bs) (better_le _ _ _ (number_len_le bs) (better_le _ _ _ (word_len_le bs) (better_le _ _ _ (behind_le 37 name_len bs name_len_le) (better_le _ _ _ (behind_le 64 name_len bs name_len_le) (better_le _ _ _ (behind_le 36 name_len bs name_len_le)
    (better_le _ _ _ (meta_len_le bs) (better_le _ _ _ (behind_le 35 (run Digits) bs (run_le Digits)) (better_le _ _ _ (string_len_le bs) (better_le _ _ _ (behind_le 99 string_len bs string_len_le) (better_le _ _ _ (dots_len_le bs) (other_len_le bs)))))))))))
