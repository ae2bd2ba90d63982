-- Rows of words as lists of bits.
use Rattle.std.proofs.Common.{◌≡◌, ℕ, zero, suc, ◌+◌, ◌-◌, ◌*◌, ◌/◌, ◌%◌, ◌^◌, ◌<◌, ◌≤◌, min, max, Bool, true, false, ◌&&◌, ◌||◌, List, length, get_or, set, replicate, w64, refl, sym, ◌∙◌, ap, subst, arith, inl, inr, zero-add}
use Rattle.std.specs.Prelude.{◌==◌, bit_and, bit_or}
use Rattle.std.specs.Int.{bit_at}
use Rattle.std.proofs.lemmas.Bool.{cases_lt, cases_eq}
use Rattle.std.proofs.lemmas.Nat.{and_le_l, or_lt, mod_below, pow_pos}
use Rattle.std.proofs.lemmas.Nat.Bits.{bit_at_and, bit_at_or, bit_at-lt, bit_at-zero, bit_at_set_same, bit_at_set_other, bit_at_clear_same, bit_at_clear_other, same_from_bits_below, bit_at_ones, bit_at_ones_above}
use Rattle.std.proofs.Math.Pow.{pow_mono}
use Rattle.std.proofs.lemmas.List.{ext_get_or, get_or-set_same, get_or-set_other, get_or_past, get_or-replicate, length-set, length-replicate}
use Rattle.std.proofs.lemmas.List.FromFn.{length-map-range_with_len, get_or-map-range_with_len}
use Rattle.lto_sets.specs.Row.{bit_of, row_of, words_for, IsRow}
use Rattle.lto_sets.specs.Sets.{combined, meet_of, join_of}
use Rattle.lto_sets.proofs.SetLaws.{length-combined, get_or-combined}

pub length-row : (size : ℕ) (words : List ℕ) → length (row_of size words) ≡ size
length-row size words = length-map-range_with_len (bit_of words) 0 size

pub get_or-row : (size : ℕ) (words : List ℕ) (k : ℕ) → k < size → get_or (row_of size words) k false ≡ bit_of words k
get_or-row size words k h = get_or-map-range_with_len (bit_of words) 0 size k k false h (zero-add k)

-- a row is the list that has its bits
pub row_is : (size : ℕ) (words : List ℕ) (s : List Bool) → length s ≡ size → ((k : ℕ) → k < size → bit_of words k ≡ get_or s k false) → row_of size words ≡ s
row_is size words s e h =
    ext_get_or false (row_of size words) s (length-row size words ∙ sym e)
    (λ k p.
    let below : k < size = omega (arith, length-row size words, p) in
    get_or-row size words k below ∙ h k below)

-- the word of a bit
pub word_within : (size n k : ℕ) → k < size → n ≡ words_for size → k / 64 < n
word_within size n k h e = omega arith

-- two rows, word by word
min_of_bits : (x y : ℕ) → x < 2 → y < 2 → (min x y == 1) ≡ ((x == 1) && (y == 1))
min_of_bits zero zero p q = refl
min_of_bits zero (suc zero) p q = refl
min_of_bits (suc zero) zero p q = refl
min_of_bits (suc zero) (suc zero) p q = refl
min_of_bits (suc (suc x)) y p q = absurd (omega arith)
min_of_bits x (suc (suc y)) p q = absurd (omega arith)

max_of_bits : (x y : ℕ) → x < 2 → y < 2 → (max x y == 1) ≡ ((x == 1) || (y == 1))
max_of_bits zero zero p q = refl
max_of_bits zero (suc zero) p q = refl
max_of_bits (suc zero) zero p q = refl
max_of_bits (suc zero) (suc zero) p q = refl
max_of_bits (suc (suc x)) y p q = absurd (omega arith)
max_of_bits x (suc (suc y)) p q = absurd (omega arith)

meet_bit : (a b i : ℕ) → (bit_at (bit_and a b) i == 1) ≡ ((bit_at a i == 1) && (bit_at b i == 1))
meet_bit a b i = ap (λ n. n == 1) (bit_at_and a b i) ∙ min_of_bits (bit_at a i) (bit_at b i) (bit_at-lt a i) (bit_at-lt b i)

join_bit : (a b i : ℕ) → (bit_at (bit_or a b) i == 1) ≡ ((bit_at a i == 1) || (bit_at b i == 1))
join_bit a b i = ap (λ n. n == 1) (bit_at_or a b i) ∙ max_of_bits (bit_at a i) (bit_at b i) (bit_at-lt a i) (bit_at-lt b i)

row_combined : (f : Bool → Bool → Bool) (size : ℕ) (old others words : List ℕ) → ((k : ℕ) → bit_of words k ≡ f (bit_of old k) (bit_of others k)) → row_of size words ≡ combined f (row_of size old) (row_of size others)
row_combined f size old others words h =
    let same : length (row_of size old) ≡ length (row_of size others) = length-row size old ∙ sym (length-row size others) in
    row_is size words (combined f (row_of size old) (row_of size others)) (length-combined f (row_of size old) (row_of size others) same ∙ length-row size old)
    (λ k p.
    let below : k < length (row_of size old) = omega (arith, length-row size old, p) in
    h k ∙ ap (λ x. f x (bit_of others k)) (sym (get_or-row size old k p)) ∙ ap (λ y. f (get_or (row_of size old) k false) y) (sym (get_or-row size others k p))
    ∙ sym (get_or-combined f (row_of size old) (row_of size others) k same below))

pub row_met : (size : ℕ) (old others words : List ℕ) → ((i : ℕ) → get_or words i 0 ≡ bit_and (get_or old i 0) (get_or others i 0)) → row_of size words ≡ meet_of (row_of size old) (row_of size others)
row_met size old others words h =
    row_combined (λ x y. x && y) size old others words
    (λ k. ap (λ w. bit_at w (k % 64) == 1) (h (k / 64)) ∙ meet_bit (get_or old (k / 64) 0) (get_or others (k / 64) 0) (k % 64))

pub row_joined : (size : ℕ) (old others words : List ℕ) → ((i : ℕ) → get_or words i 0 ≡ bit_or (get_or old i 0) (get_or others i 0)) → row_of size words ≡ join_of (row_of size old) (row_of size others)
row_joined size old others words h =
    row_combined (λ x y. x || y) size old others words
    (λ k. ap (λ w. bit_at w (k % 64) == 1) (h (k / 64)) ∙ join_bit (get_or old (k / 64) 0) (get_or others (k / 64) 0) (k % 64))

pub IsRow-met : (size : ℕ) (old others words : List ℕ) → length words ≡ length old → ((i : ℕ) → get_or words i 0 ≡ bit_and (get_or old i 0) (get_or others i 0)) → IsRow size old → IsRow size words
IsRow-met size old others words e h row = record {
  long = e ∙ row.long;
  within = λ i. omega (arith, h i, and_le_l (get_or old i 0) (get_or others i 0), row.within i);
  clear = λ k p.
      ap (λ w. bit_at w (k % 64) == 1) (h (k / 64)) ∙ meet_bit (get_or old (k / 64) 0) (get_or others (k / 64) 0) (k % 64)
      ∙ ap (λ x. x && bit_of others k) (row.clear k p);
}

pub IsRow-joined : (size : ℕ) (old others words : List ℕ) → length words ≡ length old → ((i : ℕ) → get_or words i 0 ≡ bit_or (get_or old i 0) (get_or others i 0)) → IsRow size old → IsRow size others → IsRow size words
IsRow-joined size old others words e h row other = record {
  long = e ∙ row.long;
  within = λ i. subst (λ w. w < 2 ^ 64) (sym (h i)) (or_lt 64 (get_or old i 0) (get_or others i 0) (row.within i) (other.within i));
  clear = λ k p.
      ap (λ w. bit_at w (k % 64) == 1) (h (k / 64)) ∙ join_bit (get_or old (k / 64) 0) (get_or others (k / 64) 0) (k % 64)
      ∙ ap (λ x. x || bit_of others k) (row.clear k p) ∙ other.clear k p;
}

-- a word in which bit k alone may have changed, to b
pub record IsChange (words : List ℕ) (k word : ℕ) (b : Bool) : Type 0 where
  pub inside : k / 64 < length words
  pub below : word < 2 ^ 64
  pub here : (bit_at word (k % 64) == 1) ≡ b
  pub others : (j : ℕ) → j < 64 → (j ≡ k % 64 → ⊥) → bit_at word j ≡ bit_at (get_or words (k / 64) 0) j

changed_here : (words : List ℕ) (k word : ℕ) (b : Bool) → IsChange words k word b → bit_of (set words (k / 64) word) k ≡ b
changed_here words k word b c = ap (λ w. bit_at w (k % 64) == 1) (get_or-set_same words (k / 64) word 0 c.inside) ∙ c.here

same_place : (j k : ℕ) → j / 64 ≡ k / 64 → j % 64 ≡ k % 64 → j ≡ k
same_place j k p q = omega arith

changed_other : (words : List ℕ) (k word : ℕ) (b : Bool) → IsChange words k word b → (j : ℕ) → (j ≡ k → ⊥) → bit_of (set words (k / 64) word) j ≡ bit_of words j
changed_other words k word b c j other =
    elim (cases_eq (j / 64) (k / 64)) [
      | inl same ↦
          let apart : j % 64 ≡ k % 64 → ⊥ = λ e. other (same_place j k same e) in
          let low : j % 64 < 64 = omega arith in
          ap (λ i. bit_at (get_or (set words (k / 64) word) i 0) (j % 64) == 1) same
          ∙ ap (λ w. bit_at w (j % 64) == 1) (get_or-set_same words (k / 64) word 0 c.inside)
          ∙ ap (λ n. n == 1) (c.others (j % 64) low apart)
          ∙ ap (λ i. bit_at (get_or words i 0) (j % 64) == 1) (sym same)
      | inr apart ↦ ap (λ w. bit_at w (j % 64) == 1) (get_or-set_other words (k / 64) (j / 64) word 0 apart)
    ]

pub row_changed : (size : ℕ) (words : List ℕ) (k word : ℕ) (b : Bool) → k < size → IsChange words k word b → row_of size (set words (k / 64) word) ≡ set (row_of size words) k b
row_changed size words k word b h c =
    let here : k < length (row_of size words) = omega (arith, length-row size words, h) in
    row_is size (set words (k / 64) word) (set (row_of size words) k b) (length-set (row_of size words) k b ∙ length-row size words)
    (λ j p. elim (cases_eq j k) [
      | inl same ↦ ap (bit_of (set words (k / 64) word)) same ∙ changed_here words k word b c ∙ sym (get_or-set_same (row_of size words) k b false here) ∙ ap (λ n. get_or (set (row_of size words) k b) n false) (sym same)
      | inr other ↦ changed_other words k word b c j other ∙ sym (get_or-row size words j p) ∙ sym (get_or-set_other (row_of size words) k j b false other)
    ])

pub IsRow-changed : (size : ℕ) (words : List ℕ) (k word : ℕ) (b : Bool) → k < size → IsChange words k word b → IsRow size words → IsRow size (set words (k / 64) word)
IsRow-changed size words k word b h c row = record {
  long = length-set words (k / 64) word ∙ row.long;
  within = λ i. elim (cases_eq i (k / 64)) [
    | inl same ↦ subst (λ n. get_or (set words (k / 64) word) n 0 < 2 ^ 64) (sym same) (subst (λ w. w < 2 ^ 64) (sym (get_or-set_same words (k / 64) word 0 c.inside)) c.below)
    | inr other ↦ subst (λ w. w < 2 ^ 64) (sym (get_or-set_other words (k / 64) i word 0 other)) (row.within i)
  ];
  clear = λ j p.
      let other : j ≡ k → ⊥ = λ e. omega (arith, e, p, h) in
      changed_other words k word b c j other ∙ row.clear j p;
}

pub set_change : (words : List ℕ) (k w : ℕ) → k / 64 < length words → w < 2 ^ 64 → w ≡ get_or words (k / 64) 0 → IsChange words k (bit_or w (1 * 2 ^ (k % 64) % 2 ^ 64)) true
set_change words k w h below e =
    let low : k % 64 < 64 = omega arith in
    record {
      inside = h;
      below = or_lt 64 w (1 * 2 ^ (k % 64) % 2 ^ 64) below (mod_below (1 * 2 ^ (k % 64)) (2 ^ 64) (omega arith));
      here = ap (λ n. n == 1) (bit_at_set_same w64 w (k % 64) low);
      others = λ j p other. bit_at_set_other w64 w (k % 64) low j other ∙ ap (λ x. bit_at x j) e;
    }

pub clear_change : (words : List ℕ) (k w : ℕ) → k / 64 < length words → w < 2 ^ 64 → w ≡ get_or words (k / 64) 0 → IsChange words k (bit_and w (2 ^ 64 - 1 - 1 * 2 ^ (k % 64) % 2 ^ 64)) false
clear_change words k w h below e =
    let low : k % 64 < 64 = omega arith in
    record {
      inside = h;
      below = omega (arith, and_le_l w (2 ^ 64 - 1 - 1 * 2 ^ (k % 64) % 2 ^ 64), below);
      here = ap (λ n. n == 1) (bit_at_clear_same w64 w (k % 64) low);
      others = λ j p other. bit_at_clear_other w64 w (k % 64) low j p other ∙ ap (λ x. bit_at x j) e;
    }

-- words of zeros are the empty row
zero_word : (n i : ℕ) → ◌≡◌ {A = ℕ} (get_or (replicate n 0) i 0) 0
zero_word n i =
    elim (cases_lt i n) [
      | inl below ↦ get_or-replicate n i 0 0 below
      | inr above ↦
          let past : length {A = ℕ} (replicate n 0) ≤ i = omega (arith, length-replicate {A = ℕ} n 0, above) in
          get_or_past (replicate n 0) i 0 past
    ]

pub row_empty : (size n : ℕ) (words : List ℕ) → words ≡ replicate n 0 → row_of size words ≡ replicate size false
row_empty size n words e =
    row_is size words (replicate size false) (length-replicate size false)
    (λ k p. ap (λ ws. bit_of ws k) e ∙ ap (λ w. bit_at w (k % 64) == 1) (zero_word n (k / 64)) ∙ ap (λ b. b == 1) (bit_at-zero (k % 64)) ∙ sym (get_or-replicate size k false false p))

-- rows of one size that agree in each bit have the same words
same_bits : (x y : ℕ) → x < 2 → y < 2 → (x == 1) ≡ (y == 1) → x ≡ y
same_bits zero zero p q e = refl
same_bits zero (suc zero) p q e = cc
same_bits (suc zero) zero p q e = cc
same_bits (suc zero) (suc zero) p q e = refl
same_bits (suc (suc x)) y p q e = absurd (omega arith)
same_bits x (suc (suc y)) p q e = absurd (omega arith)

place_of : (i j : ℕ) → j < 64 → ((i * 64 + j) / 64 ≡ i) × ((i * 64 + j) % 64 ≡ j)
place_of i j h = (omega arith, omega arith)

word_bit : (words : List ℕ) (i j : ℕ) → j < 64 → (bit_at (get_or words i 0) j == 1) ≡ bit_of words (i * 64 + j)
word_bit words i j h =
    sym (ap (λ n. bit_at (get_or words n 0) ((i * 64 + j) % 64) == 1) (place_of i j h).0
    ∙ ap (λ n. bit_at (get_or words i 0) n == 1) (place_of i j h).1)

bit_agrees : (size : ℕ) (words others : List ℕ) → IsRow size words → IsRow size others → row_of size words ≡ row_of size others → (k : ℕ) → bit_of words k ≡ bit_of others k
bit_agrees size words others row other e k =
    elim (cases_lt k size) [
      | inl below ↦ sym (get_or-row size words k below) ∙ ap (λ s. get_or s k false) e ∙ get_or-row size others k below
      | inr above ↦ row.clear k above ∙ sym (other.clear k above)
    ]

pub row_injective : (size : ℕ) (words others : List ℕ) → IsRow size words → IsRow size others → row_of size words ≡ row_of size others → words ≡ others
row_injective size words others row other e =
    ext_get_or 0 words others (row.long ∙ sym other.long)
    (λ i p. same_from_bits_below 64 (get_or words i 0) (get_or others i 0) (row.within i) (other.within i)
    (λ j q. same_bits (bit_at (get_or words i 0) j) (bit_at (get_or others i 0) j) (bit_at-lt (get_or words i 0) j) (bit_at-lt (get_or others i 0) j)
    (word_bit words i j q ∙ bit_agrees size words others row other e (i * 64 + j) ∙ sym (word_bit others i j q))))

-- rows whose views have one length are of one size
pub same_size : (size other : ℕ) (words others : List ℕ) (s t : List Bool) → row_of size words ≡ s → row_of other others ≡ t → length s ≡ length t → size ≡ other
same_size size other words others s t p q e =
    sym (length-row size words) ∙ ap length p ∙ e ∙ sym (ap length q) ∙ length-row other others

-- words of ones, of which the last keeps the bits below the size, are the full row
one_word : (n i : ℕ) → i < n → ◌≡◌ {A = ℕ} (get_or (replicate n (2 ^ 64 - 1)) i 0) (2 ^ 64 - 1)
one_word n i h = get_or-replicate n i (2 ^ 64 - 1) 0 h

ones_low : (m j : ℕ) → j < m → (bit_at (2 ^ m - 1) j == 1) ≡ true
ones_low m j h = ap (λ b. b == 1) (bit_at_ones m j h)

ones_high : (m j : ℕ) → m ≤ j → (bit_at (2 ^ m - 1) j == 1) ≡ false
ones_high m j h = ap (λ b. b == 1) (bit_at_ones_above m j h)

-- each word of this row has all its bits below the size, and no other
pub record IsFull (size : ℕ) (words : List ℕ) : Type 0 where
  pub long : length words ≡ words_for size
  pub whole : (i : ℕ) → i < size / 64 → get_or words i 0 ≡ 2 ^ 64 - 1
  pub last : 0 < size % 64 → get_or words (size / 64) 0 ≡ 2 ^ (size % 64) - 1

full_bit : (size : ℕ) (words : List ℕ) → IsFull size words → (k : ℕ) → k < size → bit_of words k ≡ true
full_bit size words f k h =
    elim (cases_lt (k / 64) (size / 64)) [
      | inl below ↦ ap (λ w. bit_at w (k % 64) == 1) (f.whole (k / 64) below) ∙ ones_low 64 (k % 64) (omega arith)
      | inr above ↦
          let same : k / 64 ≡ size / 64 = omega arith in
          let rest : 0 < size % 64 = omega arith in
          let low : k % 64 < size % 64 = omega arith in
          ap (λ i. bit_at (get_or words i 0) (k % 64) == 1) same ∙ ap (λ w. bit_at w (k % 64) == 1) (f.last rest) ∙ ones_low (size % 64) (k % 64) low
    ]

full_clear : (size : ℕ) (words : List ℕ) → IsFull size words → (k : ℕ) → size ≤ k → bit_of words k ≡ false
full_clear size words f k h =
    elim (cases_lt (k / 64) (length words)) [
      | inl below ↦
          let long : length words ≡ (size + 63) / 64 = f.long in
          let same : k / 64 ≡ size / 64 = omega arith in
          let rest : 0 < size % 64 = omega arith in
          let high : size % 64 ≤ k % 64 = omega arith in
          ap (λ i. bit_at (get_or words i 0) (k % 64) == 1) same ∙ ap (λ w. bit_at w (k % 64) == 1) (f.last rest) ∙ ones_high (size % 64) (k % 64) high
      | inr above ↦ ap (λ w. bit_at w (k % 64) == 1) (get_or_past words (k / 64) 0 above) ∙ ap (λ b. b == 1) (bit_at-zero (k % 64))
    ]

pub row_full : (size : ℕ) (words : List ℕ) → IsFull size words → row_of size words ≡ replicate size true
row_full size words f =
    row_is size words (replicate size true) (length-replicate size true) (λ k p. full_bit size words f k p ∙ sym (get_or-replicate size k true false p))

full_within : (size : ℕ) (words : List ℕ) → IsFull size words → (i : ℕ) → get_or words i 0 < 2 ^ 64
full_within size words f i =
    elim (cases_lt i (size / 64)) [
      | inl below ↦ omega (arith, f.whole i below)
      | inr above ↦
          elim (cases_lt i (length words)) [
            | inl inside ↦
                let long : length words ≡ (size + 63) / 64 = f.long in
                let same : i ≡ size / 64 = omega arith in
                let rest : 0 < size % 64 = omega arith in
                let most : size % 64 ≤ 64 = omega arith in
                let last : get_or words i 0 ≡ 2 ^ (size % 64) - 1 = ap (λ n. get_or words n 0) same ∙ f.last rest in
                omega (arith, last, pow_mono most, pow_pos (size % 64))
            | inr past ↦ omega (arith, get_or_past words i 0 past)
          ]
    ]

pub IsRow-full : (size : ℕ) (words : List ℕ) → IsFull size words → IsRow size words
IsRow-full size words f = record { long = f.long; within = full_within size words f; clear = full_clear size words f }

-- words of ones where no word is cut, and where the last one is
pub full_whole : (size n : ℕ) (words : List ℕ) → n ≡ words_for size → size % 64 ≤ 0 → words ≡ replicate n (2 ^ 64 - 1) → IsFull size words
full_whole size n words e h p = record {
  long = ap length p ∙ length-replicate n (2 ^ 64 - 1) ∙ e;
  whole = λ i below.
      let inside : i < n = omega arith in
      ap (λ ws. get_or ws i 0) p ∙ one_word n i inside;
  last = λ rest. absurd (omega arith);
}

pub full_cut : (size n word : ℕ) (words : List ℕ) → n ≡ words_for size → 0 < size % 64 → word ≡ 2 ^ (size % 64) - 1 → words ≡ set (replicate n (2 ^ 64 - 1)) (size / 64) word → IsFull size words
full_cut size n word words e h cut p =
    let ones : List ℕ = replicate n (2 ^ 64 - 1) in
    record {
      long = ap length p ∙ length-set ones (size / 64) word ∙ length-replicate n (2 ^ 64 - 1) ∙ e;
      whole = λ i below.
          let inside : i < n = omega arith in
          let other : i ≡ size / 64 → ⊥ = λ same. omega (arith, same, below) in
          ap (λ ws. get_or ws i 0) p ∙ get_or-set_other ones (size / 64) i word 0 other ∙ one_word n i inside;
      last = λ rest.
          let inside : size / 64 < length ones = omega (arith, length-replicate n (2 ^ 64 - 1)) in
          ap (λ ws. get_or ws (size / 64) 0) p ∙ get_or-set_same ones (size / 64) word 0 inside ∙ cut;
    }
