-- Lists by numbers: one more list, one more item, and a list that is taken out.
use Rattle.std.proofs.Common.{◌≡◌, ◌≢◌, ℕ, zero, suc, ◌+◌, ◌<◌, ◌≤◌, ◌==◌, Bool, true, false, List, [], ◌∷◌, ◌++◌, length, get_or, refl, sym, ◌∙◌, ap, arith, append-nil, if◌then◌else◌}
use Rattle.std.specs.Prelude.{slice_set}
use Rattle.std.specs.declared.vec.Vec.{Vec}
use Rattle.std.proofs.lemmas.Bool.{eqb-false, eqb-true}
use Rattle.dead_code.specs.Lists.{lengths, list_at}

module _ {Z : Type 0} where
  pub empty_list : (rows : List (Vec ℕ Z)) (v : Vec ℕ Z) (n : ℕ) → v.items ≡ [] → list_at (rows ++ v ∷ []) n ≡ list_at rows n
  empty_list [] v zero e = e
  empty_list [] v (suc n) e = refl
  empty_list (r ∷ rows) v zero e = refl
  empty_list (r ∷ rows) v (suc n) e = empty_list rows v n e

  set_same : (rows : List (Vec ℕ Z)) (place : ℕ) (v : Vec ℕ Z) → place < length rows → list_at (slice_set rows place v) place ≡ v.items
  set_same [] place v lt = absurd (omega (arith, lt))
  set_same (r ∷ rows) zero v lt = refl
  set_same (r ∷ rows) (suc place) v lt = set_same rows place v (omega (arith, lt))

  set_other : (rows : List (Vec ℕ Z)) (place n : ℕ) (v : Vec ℕ Z) → place ≢ n → list_at (slice_set rows place v) n ≡ list_at rows n
  set_other [] place n v other = refl
  set_other (r ∷ rows) zero zero v other = absurd (other refl)
  set_other (r ∷ rows) zero (suc n) v other = refl
  set_other (r ∷ rows) (suc place) zero v other = refl
  set_other (r ∷ rows) (suc place) (suc n) v other = set_other rows place n v (λ e. other (ap suc e))

  pub list_set : (rows : List (Vec ℕ Z)) (place n : ℕ) (v : Vec ℕ Z) → place < length rows → list_at (slice_set rows place v) n ≡ (if place == n then v.items else list_at rows n)
  list_set rows place n v lt = by (place == n) refl
    where
      by : (b : Bool) → (place == n) ≡ b → list_at (slice_set rows place v) n ≡ (if b then v.items else list_at rows n)
      by true e = ap (list_at (slice_set rows place v)) (sym (eqb-true place n e)) ∙ set_same rows place v lt
      by false e = set_other rows place n v (eqb-false place n e)

  -- the list of a number with one more item
  pub one_more : (rows : List (Vec ℕ Z)) (place n : ℕ) (v : Vec ℕ Z) (more : List ℕ) → place < length rows → v.items ≡ list_at rows place ++ more
      → list_at (slice_set rows place v) n ≡ list_at rows n ++ (if place == n then more else [])
  one_more rows place n v more lt is = list_set rows place n v lt ∙ by (place == n) refl
    where
      by : (b : Bool) → (place == n) ≡ b → (if b then v.items else list_at rows n) ≡ list_at rows n ++ (if b then more else [])
      by true e = is ∙ ap (λ (k : ℕ). list_at rows k ++ more) (eqb-true place n e)
      by false e = sym (append-nil (list_at rows n))

  pub fewer : (rows : List (Vec ℕ Z)) (place : ℕ) (v : Vec ℕ Z) → place < length rows → v.items ≡ [] → lengths (slice_set rows place v) + length (list_at rows place) ≡ lengths rows
  fewer [] place v lt e = absurd (omega (arith, lt))
  fewer (r ∷ rows) zero v lt e = let none : length v.items ≡ 0 = ap length e in omega (arith, none)
  fewer (r ∷ rows) (suc place) v lt e =
      let rest : lengths (slice_set rows place v) + length (list_at rows place) ≡ lengths rows = fewer rows place v (omega (arith, lt)) e in
      omega (arith, rest)

  pub got : (rows : List (Vec ℕ Z)) (place : ℕ) (d : Vec ℕ Z) → place < length rows → (get_or rows place d).items ≡ list_at rows place
  got [] place d lt = absurd (omega (arith, lt))
  got (r ∷ rows) zero d lt = refl
  got (r ∷ rows) (suc place) d lt = got rows place d (omega (arith, lt))

  -- behind all lists there is nothing to take
  pub none_behind : (rows : List (Vec ℕ Z)) (n : ℕ) → length rows ≤ n → list_at rows n ≡ []
  none_behind [] n le = refl
  none_behind (r ∷ rows) zero le = absurd (omega (arith, le))
  none_behind (r ∷ rows) (suc n) le = none_behind rows n (omega (arith, le))

  pub nothing_taken : (rows : List (Vec ℕ Z)) (place n : ℕ) → length rows ≤ place → list_at rows n ≡ (if place == n then [] else list_at rows n)
  nothing_taken rows place n le = by (place == n) refl
    where
      by : (b : Bool) → (place == n) ≡ b → list_at rows n ≡ (if b then [] else list_at rows n)
      by true e = ap (list_at rows) (sym (eqb-true place n e)) ∙ none_behind rows place le
      by false e = refl
