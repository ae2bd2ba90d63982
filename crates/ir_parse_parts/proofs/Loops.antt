-- Reading one behind another, as a loop does.
use Rattle.std.proofs.Common.{◌≡◌, ℕ, zero, suc, ◌-◌, ◌<◌, Bool, true, false, List, [], ◌∷◌, ◌++◌, Result, Ok, Err, refl, sym, ap, ◌∙◌, append_assoc, arith, map}
use Rattle.std.proofs.lemmas.List.{append-nil, map_push}
use Rattle.ir_parse_parts.specs.declared.fault.Fault.{Fault}
use Rattle.ir_parse_parts.specs.declared.fault.TokenFault.TheVariants.{Limit}
use Rattle.ir_tree.specs.declared.failure.Failure.{Failure}
use Rattle.ir_tree.specs.declared.failure.Failure.TheVariants as errors
use Rattle.ir_parse_parts.specs.Readers.{Reader, fault_at, done, follow, ◌>>=◌, pick, many_at, Fails, next_is}

-- what was read before, and what is still read
abbrev pub with_front : {T A : Type 0} → List A → Result (List A × List T) Fault → Result (List A × List T) Fault
with_front front (Ok x) = Ok (front ++ x.0, x.1)
with_front front (Err e) = Err e

module _ {T A : Type 0} (begins : T → Bool) (f : Reader T A) where
  regroup : (front : List A) (a : A) (r : Result (List A × List T) Fault) → with_front front (follow r (λ more. done (a ∷ more))) ≡ with_front (front ++ a ∷ []) r
  regroup front a (Ok x) = ap (λ (as' : List A). Ok (as', x.1)) (sym (append_assoc front (a ∷ []) x.0))
  regroup front a (Err e) = refl

  pick_of : (one other : Reader T (List A)) (ts : List T) → next_is begins ts ≡ true → pick begins one other ts ≡ one ts
  pick_of one other [] h = absurd cc
  pick_of one other (t ∷ ts) h = rw h refl

  pick_not : (one : Reader T (List A)) (n : ℕ) (ts : List T) → next_is begins ts ≡ false → pick begins one (done []) ts ≡ Ok ([], ts)
  pick_not one n [] h = refl
  pick_not one n (t ∷ ts) h = rw h refl

  pub goes_on : (front : List A) (left : ℕ) (ts : List T) (a : A) (after : List T) (total : Result (List A × List T) Fault) → 0 < left → true ≡ next_is begins ts → f ts ≡ Ok (a, after)
      → with_front front (many_at begins f (left) ts) ≡ total → with_front (front ++ a ∷ []) (many_at begins f (left - 1) after) ≡ total
  goes_on front left ts a after total lt n h so_far =
      let k : left ≡ suc (left - 1) = omega arith in
      let rest = many_at begins f (left - 1) in
      let one : many_at begins f (suc (left - 1)) ts ≡ follow (rest after) (λ more. done (a ∷ more)) = pick_of (f >>= λ b. rest >>= λ more. done (b ∷ more)) (done []) ts (sym n) ∙ ap (λ (r : Result (A × List T) Fault). follow r (λ b. rest >>= λ more. done (b ∷ more))) h in
      sym (ap (with_front front) one ∙ regroup front a (rest after)) ∙ ap (λ (m : ℕ). with_front front (many_at begins f m ts)) (sym k) ∙ so_far

  pub fails : (e : Failure Fault) (front : List A) (left : ℕ) (ts : List T) (total : Result (List A × List T) Fault) → 0 < left → true ≡ next_is begins ts → Fails e (f ts)
      → with_front front (many_at begins f (left) ts) ≡ total → Fails e total
  fails errors.NoMemory front left ts total lt n h so_far = tt
  fails (errors.Fault e) front left ts total lt n h so_far =
      let k : left ≡ suc (left - 1) = omega arith in
      let rest = many_at begins f (left - 1) in
      let one : many_at begins f (suc (left - 1)) ts ≡ Err e = pick_of (f >>= λ b. rest >>= λ more. done (b ∷ more)) (done []) ts (sym n) ∙ ap (λ (r : Result (A × List T) Fault). follow r (λ b. rest >>= λ more. done (b ∷ more))) h in
      sym so_far ∙ ap (λ (m : ℕ). with_front front (many_at begins f m ts)) k ∙ ap (with_front front) one

  stops_at : (n : ℕ) (ts : List T) → next_is begins ts ≡ false → many_at begins f n ts ≡ Ok ([], ts)
  stops_at zero ts h = pick_not (fault_at Limit) zero ts h
  stops_at (suc n) ts h = pick_not (f >>= λ b. many_at begins f n >>= λ more. done (b ∷ more)) n ts h

  pub stops : (front : List A) (n : ℕ) (ts : List T) (total : Result (List A × List T) Fault) → false ≡ next_is begins ts
      → with_front front (many_at begins f n ts) ≡ total → total ≡ Ok (front, ts)
  stops front n ts total h so_far = sym so_far ∙ ap (with_front front) (stops_at n ts (sym h)) ∙ ap (λ (as' : List A). Ok (as', ts)) (append-nil front)

-- the same after a push, seen by a view
pub pushed : {X A T : Type 0} (view : X → A) (xs ys : List X) (x : X) (r total : Result (List A × List T) Fault) → ys ≡ xs ++ x ∷ [] → with_front (map view xs ++ view x ∷ []) r ≡ total → with_front (map view ys) r ≡ total
pushed {X} {A} view xs ys x r total e h = ap (λ (zs : List A). with_front zs r) (ap (map view) e ∙ map_push view xs x) ∙ h
