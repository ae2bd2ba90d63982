-- What is read, added to what was read before.
use Rattle.std.proofs.Common.{◌≡◌, Bool, false, List, [], ◌∷◌, ◌++◌, Result, Ok, Err, refl, sym, ap, subst, ◌∙◌}
use Rattle.std.specs.Prelude.{IfErr, OnOk}
use Rattle.ir_lex.specs.Tok.{Tok}
use Rattle.ir_parse_parts.specs.Chained.{chain_at, stops_here}
use Rattle.ir_parse_parts.specs.declared.fault.Fault.{Fault}
use Rattle.ir_tree.specs.declared.failure.Failure.{Failure}
use Rattle.ir_tree.specs.declared.failure.Failure.TheVariants as errors
use Rattle.ir_parse_parts.specs.Readers.{Reader, Fails, Returns, done, follow, folded}
use Rattle.ir_parse_parts.proofs.Composed.{reads_is}

-- what fails first fails
pub first_fails : {A B : Type 0} (e : Failure Fault) (r : Result (A × List Tok) Fault) (h : A → Reader Tok B) → Fails e r → Fails e (follow r h)
first_fails errors.NoMemory r h p = tt
first_fails (errors.Fault f) r h p = rw p refl

-- where one more was added, it was read
pub pushed_read : {A : Type 0} (front new : List A) (rest : List Tok) (r : Result (A × List Tok) Fault) → follow r (λ x. done (front ++ x ∷ [])) ≡ Ok (new, rest) → (x : A) × (r ≡ Ok (x, rest)) × (new ≡ front ++ x ∷ [])
pushed_read front new rest (Ok y) e =
    let p = reads_is (front ++ y.0 ∷ []) new y.1 rest e in
    (y.0, ap (λ (us : List Tok). Ok (y.0, us)) p.1, sym p.0)
pushed_read front new rest (Err d) e = absurd cc

pub pushed_fails : {A : Type 0} (front : List A) (e : Failure Fault) (r : Result (A × List Tok) Fault) → Fails e (follow r (λ x. done (front ++ x ∷ []))) → Fails e r
pushed_fails front errors.NoMemory r h = tt
pushed_fails front (errors.Fault f) (Ok y) h = absurd cc
pushed_fails front (errors.Fault f) (Err d) h = cc

-- what is read, added by a push
pub pushed_returns : {A : Type 0} (result : Result (Unit {0}) (Failure Fault)) (new front : List A) (x : A) (rest : List Tok) (read : Result (List A × List Tok) Fault) → OnOk result (new ≡ front ++ x ∷ []) → IfErr result (λ e. e ≡ errors.NoMemory) → read ≡ Ok (front ++ x ∷ [], rest) → Returns (λ (u : Unit {0}). (new, rest)) result read
pushed_returns {A} (Ok u) new front x rest read p m e = e ∙ ap (λ (xs : List A). Ok (xs, rest)) (sym p)
pushed_returns (Err d) new front x rest read p m e = subst (λ (f : Failure Fault). Fails f read) (sym m) tt

module _ {A S B : Type 0} (step : B → A → B) (front : B) where
  -- where a piece was gathered, it was read
  pub gathered_read : (new : B) (s : S) (rest : List Tok) (r : Result ((A × S) × List Tok) Fault) → follow {B = B × S} r (λ x. done (step front x.0, x.1)) ≡ Ok ((new, s), rest) → (x : A × S) × (r ≡ Ok (x, rest)) × (new ≡ step front x.0) × (s ≡ x.1)
  gathered_read new s rest (Ok y) e =
      let z : B × S = (step front y.0.0, y.0.1) in
      let w : B × S = (new, s) in
      let p = reads_is z w y.1 rest e in
      (y.0, ap (λ (us : List Tok). Ok (y.0, us)) p.1, sym (ap (λ (x : B × S). x.0) p.0), sym (ap (λ (x : B × S). x.1) p.0))
  gathered_read new s rest (Err d) e = absurd cc

  pub gathered_fails : (e : Failure Fault) (r : Result ((A × S) × List Tok) Fault) → Fails e (follow {B = B × S} r (λ x. done (step front x.0, x.1))) → Fails e r
  gathered_fails errors.NoMemory r h = tt
  gathered_fails (errors.Fault f) (Ok y) h = absurd cc
  gathered_fails (errors.Fault f) (Err d) h = cc

-- a piece that isn't read ends a chain
pub chain_fails : {A S B : Type 0} (final : S → Bool) (begins : S → Tok → Bool) (f : S → Reader Tok (A × S)) (step : B → A → B) (e : Failure Fault) (acc : B) (s : S) (ts : List Tok) (total : Result (B × List Tok) Fault) → stops_here final begins s ts ≡ false → Fails e (f s ts) → folded step acc (chain_at final begins f s ts) ≡ total → Fails e total
chain_fails final begins f step errors.NoMemory acc s ts total h k so_far = tt
chain_fails {A} {S} final begins f step (errors.Fault d) acc s ts total h k so_far =
    sym so_far ∙ ap (folded step acc) goes
  where
    goes : chain_at final begins f s ts ≡ Err d
    goes = rw (h, k) refl
