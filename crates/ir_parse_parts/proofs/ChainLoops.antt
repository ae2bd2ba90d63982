-- Reading pieces that hand a state on, as a loop does: each takes a token, so there is always room for one more.
use Rattle.std.proofs.Common.{◌≡◌, ℕ, zero, suc, ◌<◌, Bool, true, false, List, [], ◌∷◌, length, Result, Ok, Err, refl, sym, ap, ◌∙◌, arith}
use Rattle.ir_parse_parts.specs.declared.fault.Fault.{Fault}
use Rattle.ir_parse_parts.specs.Chained.{stops_here, chain_within, chain_at}
use Rattle.ir_parse_parts.specs.Readers.{Reader, done, follow, ◌>>=◌, folded}
use Rattle.ir_parse_parts.proofs.Composed.{reads}

module _ {T S A : Type 0} (final : S → Bool) (begins : S → T → Bool) (f : S → Reader T (A × S)) (takes : (s : S) (ts rest : List T) (x : A × S) → f s ts ≡ Ok (x, rest) → length rest < length ts) where
  abbrev within : ℕ → S → Reader T (List A)
  within = chain_within final begins f

  abbrev stop : S → List T → Bool
  stop = stops_here final begins

  abbrev further : ℕ → A × S → Reader T (List A)
  further n x = within n x.1 >>= λ m. done (x.0 ∷ m)

  stopped : (n : ℕ) (s : S) (ts : List T) → stop s ts ≡ true → within n s ts ≡ reads [] ts
  stopped zero s ts h = rw h refl
  stopped (suc n) s ts h = rw h refl

  goes : (n : ℕ) (s : S) (ts : List T) → stop s ts ≡ false → within (suc n) s ts ≡ follow (f s ts) (further n)
  goes n s ts h = rw h refl

  roomy : (n m : ℕ) (s : S) (ts : List T) → length ts < n → length ts < m → within n s ts ≡ within m s ts
  roomy zero m s ts i j = absurd (omega (arith, i))
  roomy (suc n) zero s ts i j = absurd (omega (arith, j))
  roomy (suc n) (suc m) s ts i j = by_test (λ next rest i' j'. roomy n m next rest i' j') (stop s ts) refl
    where
      by_result : ((next : S) (rest : List T) → length rest < n → length rest < m → within n next rest ≡ within m next rest) → (r : Result ((A × S) × List T) Fault) → f s ts ≡ r → follow r (further n) ≡ follow r (further m)
      by_result again (Err e) h = refl
      by_result again (Ok x) h =
          let k = takes s ts x.1 x.0 h in
          ap (λ (r : Result (List A × List T) Fault). follow r (λ l. done (x.0.0 ∷ l))) (again x.0.1 x.1 (omega (arith, i, k)) (omega (arith, j, k)))

      by_test : ((next : S) (rest : List T) → length rest < n → length rest < m → within n next rest ≡ within m next rest) → (b : Bool) → stop s ts ≡ b → within (suc n) s ts ≡ within (suc m) s ts
      by_test again true e = stopped (suc n) s ts e ∙ sym (stopped (suc m) s ts e)
      by_test again false e = goes n s ts e ∙ by_result again (f s ts) refl ∙ sym (goes m s ts e)

  -- one piece, and then those from the state behind it
  one : (s : S) (ts : List T) (x : A × S) (rest : List T) → stop s ts ≡ false → f s ts ≡ Ok (x, rest) → chain_at final begins f s ts ≡ follow (chain_at final begins f x.1 rest) (λ m. done (x.0 ∷ m))
  one s ts x rest h e =
      goes (length ts) s ts h ∙ ap (λ (r : Result ((A × S) × List T) Fault). follow r (further (length ts))) e
      ∙ ap (λ (r : Result (List A × List T) Fault). follow r (λ m. done (x.0 ∷ m))) (roomy (length ts) (suc (length rest)) x.1 rest (takes s ts rest x e) (omega arith))

  module _ {B : Type 0} (step : B → A → B) where
    joined : (acc : B) (a : A) (r : Result (List A × List T) Fault) → folded step acc (follow r (λ m. done (a ∷ m))) ≡ folded step (step acc a) r
    joined acc a (Ok x) = refl
    joined acc a (Err e) = refl

    pub chain_on : (acc : B) (s : S) (ts : List T) (x : A × S) (after : List T) (total : Result (B × List T) Fault) → stop s ts ≡ false → f s ts ≡ Ok (x, after) → folded step acc (chain_at final begins f s ts) ≡ total → folded step (step acc x.0) (chain_at final begins f x.1 after) ≡ total
    chain_on acc s ts x after total h e so_far = sym (joined acc x.0 (chain_at final begins f x.1 after)) ∙ sym (ap (folded step acc) (one s ts x after h e)) ∙ so_far

    pub chain_none : (acc : B) (s : S) (ts : List T) (total : Result (B × List T) Fault) → stop s ts ≡ true → folded step acc (chain_at final begins f s ts) ≡ total → total ≡ Ok (acc, ts)
    chain_none acc s ts total h so_far = sym so_far ∙ ap (folded step acc) (stopped (suc (length ts)) s ts h)

    failed : (acc : B) (s : S) (ts : List T) (e : Fault) → stop s ts ≡ false → f s ts ≡ Err e → folded step acc (chain_at final begins f s ts) ≡ Err e
    failed acc s ts e h d = ap (folded step acc) (goes (length ts) s ts h ∙ ap (λ (r : Result ((A × S) × List T) Fault). follow r (further (length ts))) d)
