-- Where bytes are cut into parts.
use Rattle.std.proofs.Common.{◌≡◌, ◌∙◌, ℕ, zero, suc, ◌+◌, ◌-◌, ◌<◌, Bool, true, false, cond, List, [], ◌∷◌, length, take, drop, add-one, refl, sym, ap, arith}
use Rattle.std.specs.Prelude.{◌==◌, slice_index}
use Rattle.std.specs.List.{onto_first, slice_split}
use Rattle.std.proofs.lemmas.List.{length-drop, take_all}
use Rattle.std.proofs.lemmas.List.Splits.{slice_split-cons_no, slice_split-cons_yes}
use Rattle.memchr.specs.Find.{NoneBefore, Passes, is_byte}
use Rattle.lto_words.specs.Listing.{but_empty_end, lines_of}

pub not_true : (b : Bool) → (b ≡ true → ⊥) → b ≡ false
not_true true h = absurd (h refl)
not_true false h = refl

abbrev is : ℕ → ℕ → Bool
is c b = b == c

-- the first part ends at the first such byte
cut_at : (c : ℕ) (xs : List ℕ) (k : ℕ) → ((j : ℕ) → j < k → j < length xs → (slice_index xs j == c) ≡ true → ⊥) → k < length xs → (slice_index xs k == c) ≡ true
    → slice_split (is c) xs ≡ take k xs ∷ slice_split (is c) (drop (suc k) xs)
cut_at c [] k none inside p = absurd (omega (arith, inside))
cut_at c (x ∷ xs) zero none inside p = slice_split-cons_yes (is c) x xs p
cut_at c (x ∷ xs) (suc k) none inside p =
    slice_split-cons_no (is c) x xs (not_true (x == c) (λ e. none 0 (omega arith) (omega arith) e))
    ∙ ap (onto_first x) (cut_at c xs k (λ j lt within e. none (suc j) (omega (arith, lt)) (omega (arith, within)) e) (omega (arith, inside)) p)

-- where there is none, all is one part
uncut : (c : ℕ) (xs : List ℕ) → ((j : ℕ) → j < length xs → (slice_index xs j == c) ≡ true → ⊥) → slice_split (is c) xs ≡ xs ∷ []
uncut c [] none = refl
uncut c (x ∷ xs) none =
    slice_split-cons_no (is c) x xs (not_true (x == c) (λ e. none 0 (omega arith) e))
    ∙ ap (onto_first x) (uncut c xs (λ j within e. none (suc j) (omega (arith, within)) e))

-- there is a part
some_part : (p : ℕ → Bool) (xs : List ℕ) → (first : List ℕ) × (rest : List (List ℕ)) × (slice_split p xs ≡ first ∷ rest)
some_part p [] = ([], [], refl)
some_part p (x ∷ xs) = by (some_part p xs) (p x)
  where
    by : (first : List ℕ) × (rest : List (List ℕ)) × (slice_split p xs ≡ first ∷ rest) → (b : Bool) → (first : List ℕ) × (rest : List (List ℕ)) × (cond b ([] ∷ slice_split p xs) (onto_first x (slice_split p xs)) ≡ first ∷ rest)
    by r true = ([], slice_split p xs, refl)
    by r false = (x ∷ r.0, r.1, ap (onto_first x) r.2)

-- a part that others follow isn't at the end
part_stays : (part : List ℕ) (parts : List (List ℕ)) (first : List ℕ) (rest : List (List ℕ)) → parts ≡ first ∷ rest → but_empty_end (part ∷ parts) ≡ part ∷ but_empty_end parts
part_stays [] [] first rest e = absurd (cc e)
part_stays [] (p ∷ ps) first rest e = refl
part_stays (b ∷ bs) parts first rest e = refl

-- a slice to the end is what is left
to_the_end : (xs : List ℕ) (k : ℕ) → drop (suc k) xs ≡ take (length xs - (k + 1)) (drop (k + 1) xs)
to_the_end xs k =
    ap (λ (n : ℕ). drop n xs) (sym (add-one k))
    ∙ sym (take_all (length xs - (k + 1)) (drop (k + 1) xs) (omega (arith, length-drop (k + 1) xs)))

-- the first line, where one ends
pub line_ends : (xs : List ℕ) (k : ℕ) → NoneBefore (Passes (is_byte 10) xs) 0 (length xs) k → Passes (is_byte 10) xs k → lines_of xs ≡ take k xs ∷ lines_of (take (length xs - (k + 1)) (drop (k + 1) xs))
line_ends xs k none here =
    ap but_empty_end (cut_at 10 xs k (λ j lt within e. none.before j (omega arith) lt e) none.high here)
    ∙ part_stays (take k xs) (slice_split (is 10) (drop (suc k) xs)) (some_part (is 10) (drop (suc k) xs)).0 (some_part (is 10) (drop (suc k) xs)).1 (some_part (is 10) (drop (suc k) xs)).2
    ∙ ap (λ (ys : List ℕ). take k xs ∷ lines_of ys) (to_the_end xs k)

-- and where none does
pub line_alone : (xs : List ℕ) → 0 < length xs → ((j : ℕ) → j < length xs → (slice_index xs j == 10) ≡ true → ⊥) → lines_of xs ≡ xs ∷ []
line_alone [] some none = absurd (omega (arith, some))
line_alone (x ∷ xs) some none = ap but_empty_end (uncut 10 (x ∷ xs) none)
