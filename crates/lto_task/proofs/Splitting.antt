-- Bytes that lack one, and where bytes are split.
use Rattle.std.proofs.Common.{◌≡◌, ◌∙◌, ℕ, zero, suc, ◌+◌, ◌-◌, ◌<◌, ◌≤◌, true, List, [], ◌∷◌, ◌++◌, length, take, drop, get_or, add-one, refl, sym, ap, subst, arith}
use Rattle.std.proofs.lemmas.Bool.{eq-eqb, eqb-true}
use Rattle.std.proofs.lemmas.List.{length-drop, take_all}
use Rattle.std.specs.Prelude.{◌==◌, slice_index}
use Rattle.memchr.specs.Find.{NoneAfter, NoneBefore, Passes, is_byte}
use Rattle.ir_tree.specs.Names.{AllBytes}
use Rattle.lto_task.specs.Splits.{Lacks}

-- ---- where a byte isn't found

pub lacks_below : (c : ℕ) (xs : List ℕ) (n : ℕ) → ((k : ℕ) → k < n → k < length xs → (slice_index xs k == c) ≡ true → ⊥) → Lacks c (take n xs)
lacks_below c [] zero none = tt
lacks_below c [] (suc n) none = tt
lacks_below c (x ∷ xs) zero none = tt
lacks_below c (x ∷ xs) (suc n) none = (λ e. none 0 (omega arith) (omega arith) (eq-eqb x c e), lacks_below c xs n (λ k lt inside p. none (suc k) (omega (arith, lt)) (omega (arith, inside)) p))

pub lacks_from : (c : ℕ) (xs : List ℕ) (n : ℕ) → ((k : ℕ) → n ≤ k → k < length xs → (slice_index xs k == c) ≡ true → ⊥) → Lacks c (drop n xs)
lacks_from c [] zero none = tt
lacks_from c [] (suc n) none = tt
lacks_from c (x ∷ xs) zero none = (λ e. none 0 (omega arith) (omega arith) (eq-eqb x c e), lacks_from c xs zero (λ k low inside p. none (suc k) (omega arith) (omega (arith, inside)) p))
lacks_from c (x ∷ xs) (suc n) none = lacks_from c xs n (λ k low inside p. none (suc k) (omega (arith, low)) (omega (arith, inside)) p)

pub lacks_all : (c : ℕ) (xs : List ℕ) → ((k : ℕ) → k < length xs → (slice_index xs k == c) ≡ true → ⊥) → Lacks c xs
lacks_all c xs none = lacks_from c xs 0 (λ k _ inside p. none k inside p)

-- a place where it is found
pub found_at : (c : ℕ) (xs : List ℕ) (k : ℕ) → k < length xs → (slice_index xs k == c) ≡ true → xs ≡ take k xs ++ (c ∷ drop (suc k) xs)
found_at c [] k inside p = absurd (omega (arith, inside))
found_at c (x ∷ xs) zero inside p = ap (λ (y : ℕ). y ∷ xs) (eqb-true x c p)
found_at c (x ∷ xs) (suc k) inside p = ap (λ (ys : List ℕ). x ∷ ys) (found_at c xs k (omega (arith, inside)) p)

-- ---- where it is found first, or last

-- a slice to the end is what is left
to_the_end : (xs : List ℕ) (k : ℕ) → drop (suc k) xs ≡ take (length xs - (k + 1)) (drop (k + 1) xs)
to_the_end xs k =
    ap (λ (n : ℕ). drop n xs) (sym (add-one k))
    ∙ sym (take_all (length xs - (k + 1)) (drop (k + 1) xs) (omega (arith, length-drop (k + 1) xs)))

pub split_at_first : (c : ℕ) (xs : List ℕ) (k : ℕ) → NoneBefore (Passes (is_byte c) xs) 0 (length xs) k → Passes (is_byte c) xs k
    → Lacks c (take k xs) × (xs ≡ take k xs ++ (c ∷ take (length xs - (k + 1)) (drop (k + 1) xs)))
split_at_first c xs k none here = (
  lacks_below c xs k (λ j lt inside p. none.before j (omega arith) lt p),
  found_at c xs k none.high here ∙ ap (λ (rest : List ℕ). take k xs ++ (c ∷ rest)) (to_the_end xs k),
)

pub split_at_last : (c : ℕ) (xs : List ℕ) (k : ℕ) → NoneAfter (Passes (is_byte c) xs) 0 (length xs) k → Passes (is_byte c) xs k
    → Lacks c (take (length xs - (k + 1)) (drop (k + 1) xs)) × (xs ≡ take k xs ++ (c ∷ take (length xs - (k + 1)) (drop (k + 1) xs)))
split_at_last c xs k none here = (
  subst (Lacks c) (to_the_end xs k) (lacks_from c xs (suc k) (λ j low inside p. none.after j (omega (arith, low)) inside p)),
  found_at c xs k none.high here ∙ ap (λ (rest : List ℕ). take k xs ++ (c ∷ rest)) (to_the_end xs k),
)

-- ---- one way to split

lacks_not : (c : ℕ) (xs ys : List ℕ) → Lacks c (xs ++ (c ∷ ys)) → ⊥
lacks_not c [] ys lacks = lacks.0 refl
lacks_not c (x ∷ xs) ys lacks = lacks_not c xs ys lacks.1

pub no_split : (c : ℕ) (bytes xs ys : List ℕ) → Lacks c bytes → bytes ≡ xs ++ (c ∷ ys) → ⊥
no_split c bytes xs ys lacks is = lacks_not c xs ys (subst (Lacks c) is lacks)

pub first_split_one : (c : ℕ) (xs ys us vs : List ℕ) → Lacks c xs → Lacks c us → xs ++ (c ∷ ys) ≡ us ++ (c ∷ vs) → (xs ≡ us) × (ys ≡ vs)
first_split_one c [] ys [] vs lack none is = (refl, cc)
first_split_one c [] ys (u ∷ us) vs lack none is = absurd (none.0 (cc))
first_split_one c (x ∷ xs) ys [] vs lack none is = absurd (lack.0 (cc))
first_split_one c (x ∷ xs) ys (u ∷ us) vs lack none is =
    let rest = first_split_one c xs ys us vs lack.1 none.1 (cc) in
    let same : x ≡ u = cc in
    (λ i. same i ∷ rest.0 i, rest.1)

pub last_split_one : (c : ℕ) (xs ys us vs : List ℕ) → Lacks c ys → Lacks c vs → xs ++ (c ∷ ys) ≡ us ++ (c ∷ vs) → (xs ≡ us) × (ys ≡ vs)
last_split_one c [] ys [] vs lack none is = (refl, cc)
last_split_one c [] ys (u ∷ us) vs lack none is = absurd (no_split c ys us vs lack (cc))
last_split_one c (x ∷ xs) ys [] vs lack none is = absurd (no_split c vs xs ys none (cc))
last_split_one c (x ∷ xs) ys (u ∷ us) vs lack none is =
    let rest = last_split_one c xs ys us vs lack none (cc) in
    let same : x ≡ u = cc in
    (λ i. same i ∷ rest.0 i, rest.1)

-- ---- bytes

pub are_bytes : (xs : List ℕ) → ((k : ℕ) → get_or xs k 0 < 256) → AllBytes xs
are_bytes [] each = tt
are_bytes (x ∷ xs) each = (each 0, are_bytes xs (λ k. each (suc k)))
