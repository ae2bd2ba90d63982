-- Reading as many as there are, as a loop does: each takes a token, so there is always room for one more.
use Rattle.std.proofs.Common.{◌≡◌, ℕ, zero, suc, ◌<◌, ◌≤◌, Bool, true, false, List, [], ◌∷◌, ◌++◌, length, Result, Ok, Err, refl, sym, ap, ◌∙◌, arith, append_assoc}
use Rattle.std.proofs.lemmas.List.{length-append, append-nil}
use Rattle.std.specs.List.{fold}
use Rattle.ir_parse_parts.specs.declared.fault.Fault.{Fault}
use Rattle.ir_tree.specs.declared.failure.Failure.{Failure}
use Rattle.ir_tree.specs.declared.failure.Failure.TheVariants as errors
use Rattle.ir_parse_parts.specs.Alphabet.{Alphabet}
use Rattle.ir_parse_parts.specs.Forms.{Form}
use Rattle.ir_parse_parts.specs.Lawful.{Lawful}
use Rattle.ir_parse_parts.specs.Readers.{Reader, done, follow, ◌>>=◌, many_at, star_at, Fails, next_is, folded, dropped}
use Rattle.ir_parse_parts.proofs.Composed.{reads}

module _ {T A : Type 0} (alphabet : Alphabet T) {g wide : Form T A} {f : Reader T A} {first more : T → Bool} (begins : T → Bool) (law : Lawful alphabet g wide f first more false) where
  pub takes : (ts rest : List T) (a : A) → f ts ≡ Ok (a, rest) → length rest < length ts
  takes ts rest a h = let p = law.sound ts rest a h in by_front p.0 p.1 p.2
    where
      never : false ≡ true → ⊥
      never e = cc

      by_front : (front : List T) → ts ≡ front ++ rest → g front a → length rest < length ts
      by_front [] e q = absurd (never (law.nothing a q))
      by_front (t ∷ front) e q = omega (arith, ap length e, length-append front rest)

  at_none : (n : ℕ) (ts : List T) → next_is begins ts ≡ false → many_at begins f n ts ≡ reads [] ts
  at_none zero [] h = refl
  at_none (suc n) [] h = refl
  at_none zero (t ∷ ts) h = rw h refl
  at_none (suc n) (t ∷ ts) h = rw h refl

  at_one : (n : ℕ) (ts : List T) → next_is begins ts ≡ true → many_at begins f (suc n) ts ≡ follow (f ts) (λ a. many_at begins f n >>= λ m. done (a ∷ m))
  at_one n [] h = absurd cc
  at_one n (t ∷ ts) h = rw h refl

  roomy : (n m : ℕ) (ts : List T) → length ts ≤ n → length ts ≤ m → many_at begins f n ts ≡ many_at begins f m ts
  roomy n m [] i j = at_none n [] refl ∙ sym (at_none m [] refl)
  roomy zero m (t ∷ ts) i j = absurd (omega (arith, i))
  roomy (suc n) zero (t ∷ ts) i j = absurd (omega (arith, j))
  roomy (suc n) (suc m) (t ∷ ts) i j = by_test (λ rest i' j'. roomy n m rest i' j') (begins t) refl
    where
      by_result : ((rest : List T) → length rest ≤ n → length rest ≤ m → many_at begins f n rest ≡ many_at begins f m rest) → (r : Result (A × List T) Fault) → f (t ∷ ts) ≡ r → follow r (λ a. many_at begins f n >>= λ l. done (a ∷ l)) ≡ follow r (λ a. many_at begins f m >>= λ l. done (a ∷ l))
      by_result again (Err e) h = refl
      by_result again (Ok x) h =
          let k = takes (t ∷ ts) x.1 x.0 h in
          ap (λ (r : Result (List A × List T) Fault). follow r (λ l. done (x.0 ∷ l))) (again x.1 (omega (arith, i, k)) (omega (arith, j, k)))

      by_test : ((rest : List T) → length rest ≤ n → length rest ≤ m → many_at begins f n rest ≡ many_at begins f m rest) → (b : Bool) → begins t ≡ b → many_at begins f (suc n) (t ∷ ts) ≡ many_at begins f (suc m) (t ∷ ts)
      by_test again false e = at_none (suc n) (t ∷ ts) e ∙ sym (at_none (suc m) (t ∷ ts) e)
      by_test again true e = at_one n (t ∷ ts) e ∙ by_result again (f (t ∷ ts)) refl ∙ sym (at_one m (t ∷ ts) e)

  -- one, and then as many as there are
  pub star_one : (ts : List T) → next_is begins ts ≡ true → star_at begins f ts ≡ follow (f ts) (λ a. star_at begins f >>= λ m. done (a ∷ m))
  star_one [] h = absurd cc
  star_one (t ∷ ts) h = at_one (length ts) (t ∷ ts) h ∙ by_result (f (t ∷ ts)) refl
    where
      by_result : (r : Result (A × List T) Fault) → f (t ∷ ts) ≡ r → follow r (λ a. many_at begins f (length ts) >>= λ l. done (a ∷ l)) ≡ follow r (λ a. star_at begins f >>= λ l. done (a ∷ l))
      by_result (Err e) i = refl
      by_result (Ok x) i = ap (λ (r : Result (List A × List T) Fault). follow r (λ l. done (x.0 ∷ l))) (roomy (length ts) (length x.1) x.1 (omega (arith, takes (t ∷ ts) x.1 x.0 i)) (omega arith))

  pub star_none : (ts : List T) → next_is begins ts ≡ false → star_at begins f ts ≡ reads [] ts
  star_none ts h = at_none (length ts) ts h

  -- ---- a loop that folds what it reads

  module _ {B : Type 0} (step : B → A → B) where
    joined : (acc : B) (a : A) (r : Result (List A × List T) Fault) → folded step acc (follow r (λ m. done (a ∷ m))) ≡ folded step (step acc a) r
    joined acc a (Ok x) = refl
    joined acc a (Err e) = refl

    pub folds_on : (acc : B) (ts : List T) (a : A) (after : List T) (total : Result (B × List T) Fault) → true ≡ next_is begins ts → f ts ≡ Ok (a, after) → folded step acc (star_at begins f ts) ≡ total → folded step (step acc a) (star_at begins f after) ≡ total
    folds_on acc ts a after total n h so_far =
        sym (joined acc a (star_at begins f after)) ∙ sym (ap (folded step acc) (star_one ts (sym n) ∙ ap (λ (r : Result (A × List T) Fault). follow r (λ b. star_at begins f >>= λ m. done (b ∷ m))) h)) ∙ so_far

    pub folds_none : (acc : B) (ts : List T) (total : Result (B × List T) Fault) → false ≡ next_is begins ts → folded step acc (star_at begins f ts) ≡ total → total ≡ Ok (acc, ts)
    folds_none acc ts total n so_far = sym so_far ∙ ap (folded step acc) (star_none ts (sym n))

    pub folds_fail : (e : Failure Fault) (acc : B) (ts : List T) (total : Result (B × List T) Fault) → true ≡ next_is begins ts → Fails e (f ts) → folded step acc (star_at begins f ts) ≡ total → Fails e total
    folds_fail errors.NoMemory acc ts total n h so_far = tt
    folds_fail (errors.Fault e) acc ts total n h so_far = sym so_far ∙ ap (folded step acc) (star_one ts (sym n) ∙ ap (λ (r : Result (A × List T) Fault). follow r (λ b. star_at begins f >>= λ m. done (b ∷ m))) h)

-- folding as it is read is folding what is read
pub folded_is : {T A B : Type 0} (step : B → A → B) (acc : B) (r : Result (List A × List T) Fault) → folded step acc r ≡ follow r (λ as'. done (fold step acc as'))
folded_is step acc (Ok x) = refl
folded_is step acc (Err e) = refl

-- a value behind those that were read
abbrev pub behind : {A : Type 0} → List A → A → List A
behind front a = front ++ a ∷ []

fold_behind : {A : Type 0} (front as' : List A) → fold behind front as' ≡ front ++ as'
fold_behind front [] = sym (append-nil front)
fold_behind front (a ∷ as') = fold_behind (front ++ a ∷ []) as' ∙ append_assoc front (a ∷ []) as'

pub collected : {T A : Type 0} (r : Result (List A × List T) Fault) → folded behind [] r ≡ r
collected (Ok x) = ap (λ y. Ok (y, x.1)) (fold_behind [] x.0)
collected (Err e) = refl

-- folding to nothing is reading and keeping nothing
pub drop_is : {T A : Type 0} (r : Result (List A × List T) Fault) → folded dropped tt r ≡ follow r (λ _. done tt)
drop_is (Ok x) = refl
drop_is (Err e) = refl
