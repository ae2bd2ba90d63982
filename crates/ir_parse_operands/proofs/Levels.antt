-- Reading one behind another, as many as a list says, as loops do.
use Rattle.std.proofs.Common.{◌≡◌, List, [], ◌∷◌, ◌++◌, Result, Ok, Err, refl, sym, ap, subst, ◌∙◌, append_assoc, reverse}
use Rattle.std.specs.List.{fold}
use Rattle.std.proofs.lemmas.List.{append-nil, reverse-append}
use Rattle.ir_parse_parts.specs.declared.fault.Fault.{Fault}
use Rattle.ir_tree.specs.declared.failure.Failure.{Failure}
use Rattle.ir_tree.specs.declared.failure.Failure.TheVariants as errors
use Rattle.ir_parse_parts.specs.Readers.{Reader, done, follow, ◌>>=◌, folded, Fails, Returns}
use Rattle.ir_parse_parts.proofs.Loops.{with_front}
use Rattle.ir_parse_parts.proofs.Stars.{behind}

pub fold_behind : {A : Type 0} (front as' : List A) → fold behind front as' ≡ front ++ as'
fold_behind front [] = sym (append-nil front)
fold_behind front (a ∷ as') = fold_behind (front ++ a ∷ []) as' ∙ append_assoc front (a ∷ []) as'

-- a first one, and those behind it
pub first_and_others : {T A : Type 0} (first : A) (r : Result (List A × List T) Fault) → folded behind (first ∷ []) r ≡ follow r (λ others. done (first ∷ others))
first_and_others first (Ok x) = ap (λ y. Ok (y, x.1)) (fold_behind (first ∷ []) x.0)
first_and_others first (Err e) = refl

-- nothing was read before
pub none_before : {T A : Type 0} (r : Result (List A × List T) Fault) → with_front [] r ≡ r
none_before (Ok x) = refl
none_before (Err e) = refl

module _ {T A : Type 0} (one : Reader T A) (rest : Reader T (List A)) where
  -- one, and then the rest
  abbrev pub in_turn : Reader T (List A)
  in_turn = one >>= λ a. rest >>= λ more. done (a ∷ more)

  regroup : (front : List A) (a : A) (r : Result (List A × List T) Fault) → with_front front (follow r (λ more. done (a ∷ more))) ≡ with_front (front ++ a ∷ []) r
  regroup front a (Ok x) = ap (λ (all : List A). Ok (all, x.1)) (sym (append_assoc front (a ∷ []) x.0))
  regroup front a (Err e) = refl

  pub turns_on : (front : List A) (ts after : List T) (a : A) (total : Result (List A × List T) Fault) → one ts ≡ Ok (a, after) → with_front front (in_turn ts) ≡ total → with_front (front ++ a ∷ []) (rest after) ≡ total
  turns_on front ts after a total h so_far = sym (ap (λ (r : Result (A × List T) Fault). with_front front (follow r (λ b. rest >>= λ more. done (b ∷ more)))) h ∙ regroup front a (rest after)) ∙ so_far

  pub turn_fails : (e : Failure Fault) (front : List A) (ts : List T) (total : Result (List A × List T) Fault) → Fails e (one ts) → with_front front (in_turn ts) ≡ total → Fails e total
  turn_fails errors.NoMemory front ts total h so_far = tt
  turn_fails (errors.Fault d) front ts total h so_far = sym so_far ∙ ap (λ (r : Result (A × List T) Fault). with_front front (follow r (λ b. rest >>= λ more. done (b ∷ more)))) h

pub last_is_first : {A : Type 0} (xs ys : List A) (x : A) → ys ≡ xs ++ x ∷ [] → reverse ys ≡ x ∷ reverse xs
last_is_first xs ys x e = ap reverse e ∙ reverse-append xs (x ∷ [])

-- the same reading, written otherwise
pub gives_as : {X Y : Type 0} (view : X → Y) (x : Result X (Failure Fault)) (r r' : Result Y Fault) → r ≡ r' → Returns view x r → Returns view x r'
gives_as {Y = Y} view x r r' e h = subst (λ (y : Result Y Fault). Returns view x y) e h

-- what was read is given back
pub given : {X Y : Type 0} (view : X → Y) (result : Result X (Failure Fault)) (x : X) (read : Result Y Fault) → result ≡ Ok x → read ≡ Ok (view x) → Returns view result read
given view result x read e h = subst (λ r. Returns view r read) (sym e) h

-- what was read before is given back, where what stands behind it is read
pub given_behind : {T X Y : Type 0} (y : Y) (rest : List T) (result : Result X (Failure Fault)) (read : Result (Unit {0} × List T) Fault) → Returns (λ x. (tt, rest)) result read → Returns (λ x. (y, rest)) result (follow read (λ _. done y))
given_behind {T} y rest (Ok x) read e = ap (λ (r : Result (Unit {0} × List T) Fault). follow r (λ _. done y)) e
given_behind y rest (Err errors.NoMemory) read e = tt
given_behind {T} y rest (Err (errors.Fault f)) read e = ap (λ (r : Result (Unit {0} × List T) Fault). follow r (λ _. done y)) e
