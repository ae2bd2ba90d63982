-- Reading as loops do: with a count, and with a state.
use Rattle.std.proofs.Common.{◌≡◌, ℕ, zero, suc, ◌-◌, ◌+◌, ◌<◌, Bool, true, false, List, [], ◌∷◌, ◌++◌, length, drop, get_or, Result, Ok, Err, refl, sym, ap, subst, ◌∙◌, append_assoc, add-one, drop-cons, arith}
use Rattle.std.proofs.lemmas.List.{append-nil}
use Rattle.std.specs.List.{fold}
use Rattle.ir_parse_parts.specs.declared.fault.Fault.{Fault}
use Rattle.ir_parse_parts.specs.declared.fault.TokenFault.TheVariants.{Limit}
use Rattle.ir_tree.specs.declared.failure.Failure.{Failure}
use Rattle.ir_tree.specs.declared.failure.Failure.TheVariants as errors
use Rattle.ir_parse_parts.specs.Readers.{Reader, fault_at, done, follow, ◌>>=◌, pick, many_at, Fails, next_is}
use Rattle.ir_parse_parts.proofs.Loops.{with_front}
use Rattle.ir_parse_bodies.specs.Successive.{successive_at}

-- ---- the first of two readers, or the other

pick_one : {T X : Type 0} (begins : T → Bool) (one other : Reader T X) (ts : List T) → next_is begins ts ≡ true → pick begins one other ts ≡ one ts
pick_one begins one other [] h = absurd cc
pick_one begins one other (t ∷ ts) h = rw h refl

pick_none : {T A : Type 0} (begins : T → Bool) (one : Reader T (List A)) (ts : List T) → next_is begins ts ≡ false → pick begins one (done []) ts ≡ Ok ([], ts)
pick_none begins one [] h = refl
pick_none begins one (t ∷ ts) h = rw h refl

-- ---- as many as a count allows, folded as they are read

-- what is folded, and what is left of the count
abbrev pub counted : {T A B : Type 0} → (B → A → B) → B → ℕ → Result (List A × List T) Fault → Result ((B × ℕ) × List T) Fault
counted step acc left (Ok x) = Ok ((fold step acc x.0, left - length x.0), x.1)
counted step acc left (Err e) = Err e

pub counted_is : {T A B : Type 0} (step : B → A → B) (acc : B) (left : ℕ) (r : Result (List A × List T) Fault) → counted step acc left r ≡ follow r (λ as'. done (fold step acc as', left - length as'))
counted_is step acc left (Ok x) = refl
counted_is step acc left (Err e) = refl

module _ {T A B : Type 0} (begins : T → Bool) (f : Reader T A) (step : B → A → B) where
  all_left : (n : ℕ) → n - 0 ≡ n
  all_left n = omega arith

  one_less : (n m : ℕ) → suc n - suc m ≡ n - m
  one_less n m = omega arith

  joined : (acc : B) (left : ℕ) (a : A) (r : Result (List A × List T) Fault) → counted step acc (suc left) (follow r (λ more. done (a ∷ more))) ≡ counted step (step acc a) left r
  joined acc left a (Ok x) = ap (λ (n : ℕ). Ok ((fold step (step acc a) x.0, n), x.1)) (one_less left (length x.0))
  joined acc left a (Err e) = refl

  none : (n : ℕ) (ts : List T) → next_is begins ts ≡ false → many_at begins f n ts ≡ Ok ([], ts)
  none zero ts h = pick_none begins (fault_at Limit) ts h
  none (suc n) ts h = pick_none begins (f >>= λ b. many_at begins f n >>= λ more. done (b ∷ more)) ts h

  one_read : (left : ℕ) (ts : List T) (a : A) (after : List T) → next_is begins ts ≡ true → f ts ≡ Ok (a, after) → many_at begins f (suc left) ts ≡ follow (many_at begins f left after) (λ more. done (a ∷ more))
  one_read left ts a after n h =
      pick_one begins (f >>= λ b. many_at begins f left >>= λ more. done (b ∷ more)) (done []) ts n ∙ ap (λ (r : Result (A × List T) Fault). follow r (λ b. many_at begins f left >>= λ more. done (b ∷ more))) h

  pub counts_on : (acc : B) (left : ℕ) (ts : List T) (a : A) (after : List T) (total : Result ((B × ℕ) × List T) Fault) → 0 < left → true ≡ next_is begins ts → f ts ≡ Ok (a, after)
      → counted step acc left (many_at begins f left ts) ≡ total → counted step (step acc a) (left - 1) (many_at begins f (left - 1) after) ≡ total
  counts_on acc left ts a after total lt n h so_far =
      let k : left ≡ suc (left - 1) = omega (arith, lt) in
      sym (joined acc (left - 1) a (many_at begins f (left - 1) after)) ∙ sym (ap (counted step acc (suc (left - 1))) (one_read (left - 1) ts a after (sym n) h)) ∙ ap (λ (m : ℕ). counted step acc m (many_at begins f m ts)) (sym k) ∙ so_far

  pub counts_none : (acc : B) (left : ℕ) (ts : List T) (total : Result ((B × ℕ) × List T) Fault) → false ≡ next_is begins ts → counted step acc left (many_at begins f left ts) ≡ total → total ≡ Ok ((acc, left), ts)
  counts_none acc left ts total n so_far = sym so_far ∙ ap (counted step acc left) (none left ts (sym n)) ∙ ap (λ (m : ℕ). Ok ((acc, m), ts)) (all_left left)

  pub counts_fail : (e : Failure Fault) (acc : B) (left : ℕ) (ts : List T) (total : Result ((B × ℕ) × List T) Fault) → 0 < left → true ≡ next_is begins ts → Fails e (f ts) → counted step acc left (many_at begins f left ts) ≡ total → Fails e total
  counts_fail errors.NoMemory acc left ts total lt n h so_far = tt
  counts_fail (errors.Fault e) acc left ts total lt n h so_far =
      let k : left ≡ suc (left - 1) = omega (arith, lt) in
      let rest = many_at begins f (left - 1) in
      let one : many_at begins f (suc (left - 1)) ts ≡ Err e = pick_one begins (f >>= λ b. rest >>= λ more. done (b ∷ more)) (done []) ts (sym n) ∙ ap (λ (r : Result (A × List T) Fault). follow r (λ b. rest >>= λ more. done (b ∷ more))) h in
      sym so_far ∙ ap (λ (m : ℕ). counted step acc left (many_at begins f m ts)) k ∙ ap (counted step acc left) one

-- ---- pieces, each from the state that the one before left

module _ {T S A : Type 0} (begins : T → Bool) (f : S → Reader T (A × S)) where
  abbrev further : ℕ → A × S → Reader T (List A)
  further room x = successive_at begins f room x.1 >>= λ more. done (x.0 ∷ more)

  regroup : (front : List A) (a : A) (r : Result (List A × List T) Fault) → with_front front (follow r (λ more. done (a ∷ more))) ≡ with_front (front ++ a ∷ []) r
  regroup front a (Ok x) = ap (λ (as' : List A). Ok (as', x.1)) (sym (append_assoc front (a ∷ []) x.0))
  regroup front a (Err e) = refl

  ended : (room : ℕ) (s : S) (ts : List T) → next_is begins ts ≡ false → successive_at begins f room s ts ≡ Ok ([], ts)
  ended zero s ts h = pick_none begins (fault_at Limit) ts h
  ended (suc room) s ts h = pick_none begins (f s >>= further room) ts h

  pub pieces_on : (front : List A) (room : ℕ) (s : S) (ts : List T) (x : A × S) (after : List T) (total : Result (List A × List T) Fault) → 0 < room → true ≡ next_is begins ts → f s ts ≡ Ok (x, after)
      → with_front front (successive_at begins f room s ts) ≡ total → with_front (front ++ x.0 ∷ []) (successive_at begins f (room - 1) x.1 after) ≡ total
  pieces_on front room s ts x after total lt n h so_far =
      let k : room ≡ suc (room - 1) = omega (arith, lt) in
      let one : successive_at begins f (suc (room - 1)) s ts ≡ follow (successive_at begins f (room - 1) x.1 after) (λ more. done (x.0 ∷ more)) = pick_one begins (f s >>= further (room - 1)) (done []) ts (sym n) ∙ ap (λ (r : Result ((A × S) × List T) Fault). follow r (further (room - 1))) h in
      sym (ap (with_front front) one ∙ regroup front x.0 (successive_at begins f (room - 1) x.1 after)) ∙ ap (λ (m : ℕ). with_front front (successive_at begins f m s ts)) (sym k) ∙ so_far

  pub pieces_none : (front : List A) (room : ℕ) (s : S) (ts : List T) (total : Result (List A × List T) Fault) → false ≡ next_is begins ts → with_front front (successive_at begins f room s ts) ≡ total → total ≡ Ok (front, ts)
  pieces_none front room s ts total n so_far = sym so_far ∙ ap (with_front front) (ended room s ts (sym n)) ∙ ap (λ (as' : List A). Ok (as', ts)) (append-nil front)

  pub pieces_fail : (e : Failure Fault) (front : List A) (room : ℕ) (s : S) (ts : List T) (total : Result (List A × List T) Fault) → 0 < room → true ≡ next_is begins ts → Fails e (f s ts) → with_front front (successive_at begins f room s ts) ≡ total → Fails e total
  pieces_fail errors.NoMemory front room s ts total lt n h so_far = tt
  pieces_fail (errors.Fault e) front room s ts total lt n h so_far =
      let k : room ≡ suc (room - 1) = omega (arith, lt) in
      let one : successive_at begins f (suc (room - 1)) s ts ≡ Err e = pick_one begins (f s >>= further (room - 1)) (done []) ts (sym n) ∙ ap (λ (r : Result ((A × S) × List T) Fault). follow r (further (room - 1))) h in
      sym so_far ∙ ap (λ (m : ℕ). with_front front (successive_at begins f m s ts)) k ∙ ap (with_front front) one

-- ---- lists

-- the rest of a list from a place is what stands there, and the rest behind it
pub rest_from : {A : Type 0} (xs : List A) (i : ℕ) (x d : A) → i < length xs → x ≡ get_or xs i d → (P : List A → Type 0) → P (drop i xs) → P (x ∷ drop (i + 1) xs)
rest_from {A} xs i x d lt is P h = subst P (rw (add-one, drop-cons xs i d) (ap (λ (y : A). y ∷ drop (suc i) xs) (sym is))) h
