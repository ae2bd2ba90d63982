-- What is read, put behind what was read before.
use Rattle.std.proofs.Common.{◌≡◌, Bool, true, false, cond, Option, Some, None, List, [], ◌∷◌, ◌++◌, Result, Ok, Err, refl, sym, ap, ◌∙◌, append_assoc}
use Rattle.ir_lex.specs.Tok.{Tok}
use Rattle.ir_parse_parts.specs.declared.fault.Fault.{Fault}
use Rattle.ir_tree.specs.declared.failure.Failure.{Failure}
use Rattle.ir_tree.specs.declared.failure.Failure.TheVariants as errors
use Rattle.ir_parse_parts.specs.Readers.{Reader, Fails, done, follow, ◌>>=◌, optional_at, pick, folded}
use Rattle.ir_parse_parts.proofs.Composed.{reads_is}
use Rattle.ir_parse_parts.proofs.Loops.{with_front}
use Rattle.ir_parse_parts.proofs.Stars.{behind}
use Rattle.ir_parse_operands.proofs.Levels.{fold_behind}
use Rattle.ir_parse_bodies.specs.Blocks.{keep}

-- ---- what is kept

-- where more was put behind what stood there, it was read
pub kept_read : {A : Type 0} (front new : List A) (rest : List Tok) (r : Result (Option A × List Tok) Fault) → follow r (λ x. done (keep front x)) ≡ Ok (new, rest) → (x : Option A) × (r ≡ Ok (x, rest)) × (new ≡ keep front x)
kept_read front new rest (Ok y) e =
    let p = reads_is (keep front y.0) new y.1 rest e in
    (y.0, ap (λ (us : List Tok). Ok (y.0, us)) p.1, sym p.0)
kept_read front new rest (Err d) e = absurd cc

pub kept_fails : {A : Type 0} (front : List A) (e : Failure Fault) (r : Result (Option A × List Tok) Fault) → Fails e (follow r (λ x. done (keep front x))) → Fails e r
kept_fails front errors.NoMemory r h = tt
kept_fails front (errors.Fault f) (Ok y) h = absurd cc
kept_fails front (errors.Fault f) (Err d) h = cc

abbrev pub added_to : {A S : Type 0} → List A → A × S → Reader Tok (List A × S)
added_to front x = done (front ++ x.0 ∷ [], x.1)

pub added_read : {A S : Type 0} (front new : List A) (s : S) (rest : List Tok) (r : Result ((A × S) × List Tok) Fault) → follow r (added_to front) ≡ Ok ((new, s), rest) → (x : A × S) × (r ≡ Ok (x, rest)) × (new ≡ front ++ x.0 ∷ []) × (s ≡ x.1)
added_read {A} {S} front new s rest (Ok y) e =
    let z : List A × S = (front ++ y.0.0 ∷ [], y.0.1) in
    let w : List A × S = (new, s) in
    let p = reads_is z w y.1 rest e in
    (y.0, ap (λ (us : List Tok). Ok (y.0, us)) p.1, sym (ap (λ (x : List A × S). x.0) p.0), sym (ap (λ (x : List A × S). x.1) p.0))
added_read front new s rest (Err d) e = absurd cc

pub added_fails : {A S : Type 0} (front : List A) (e : Failure Fault) (r : Result ((A × S) × List Tok) Fault) → Fails e (follow r (added_to front)) → Fails e r
added_fails front errors.NoMemory r h = tt
added_fails front (errors.Fault f) (Ok y) h = absurd cc
added_fails front (errors.Fault f) (Err d) h = cc

-- what fails first fails
pub first_fails : {A B : Type 0} (e : Failure Fault) (r : Result (A × List Tok) Fault) (h : A → Reader Tok B) → Fails e r → Fails e (follow r h)
first_fails errors.NoMemory r h p = tt
first_fails (errors.Fault f) r h p = rw p refl

-- ---- all that is read, behind some that were read before

pub front_joined : {A : Type 0} (front : List A) (r : Result (List A × List Tok) Fault) → with_front front r ≡ follow r (λ more. done (front ++ more))
front_joined front (Ok x) = refl
front_joined front (Err e) = refl

abbrev pub joined_to : {A : Type 0} → List A → List A → Reader Tok (List A)
joined_to front all = done (front ++ all)

-- one more behind these, and others behind it
pub front_one : {A : Type 0} (front : List A) (a : A) (r : Result (List A × List Tok) Fault) → with_front (front ++ a ∷ []) r ≡ follow (follow r (λ more. done (a ∷ more))) (joined_to front)
front_one front a (Ok x) = ap (λ (all : List _). Ok (all, x.1)) (append_assoc front (a ∷ []) x.0)
front_one front a (Err e) = refl

pub folded_joined : {A : Type 0} (front : List A) (a : A) (r : Result (List A × List Tok) Fault) → folded behind (front ++ a ∷ []) r ≡ follow (follow r (λ more. done (a ∷ more))) (joined_to front)
folded_joined front a (Ok x) = ap (λ (all : List _). Ok (all, x.1)) (fold_behind (front ++ a ∷ []) x.0 ∙ append_assoc front (a ∷ []) x.0)
folded_joined front a (Err e) = refl

-- what closes all that is read
pub joined_closed : {A : Type 0} (front : List A) (close : Reader Tok (Unit {0})) (r : Result (List A × List Tok) Fault) → follow (follow r (λ all. close >>= λ _. done all)) (joined_to front) ≡ follow (follow r (joined_to front)) (λ all. close >>= λ _. done all)
joined_closed {A} front close (Ok x) = by_close (close x.1)
  where
    by_close : (r : Result (Unit {0} × List Tok) Fault) → follow (follow r (λ _. done x.0)) (joined_to front) ≡ follow {B = List A} r (λ _. done (front ++ x.0))
    by_close (Ok y) = refl
    by_close (Err e) = refl
joined_closed front close (Err e) = refl

-- behind nothing
pub joined_alone : {A : Type 0} (r : Result (List A × List Tok) Fault) → follow {B = List A} r (λ more. done ([] ++ more)) ≡ r
joined_alone (Ok x) = refl
joined_alone (Err e) = refl

-- ---- what may stand before something, and what stands there

pub optional_then : {A B : Type 0} (begins : Tok → Bool) (f : Reader Tok A) (h : Option A → Reader Tok B) (ts : List Tok) → (optional_at begins f >>= h) ts ≡ pick begins (f >>= λ a. h (Some a)) (h None) ts
optional_then begins f h [] = refl
optional_then {A} {B} begins f h (t ∷ ts) = by_test (begins t)
  where
    by_read : (r : Result (A × List Tok) Fault) → follow (follow r (λ a. done (Some a))) h ≡ follow r (λ a. h (Some a))
    by_read (Ok x) = refl
    by_read (Err e) = refl

    by_test : (b : Bool) → follow (cond b ((f >>= λ a. done (Some a)) (t ∷ ts)) (done None (t ∷ ts))) h ≡ cond b ((f >>= λ a. h (Some a)) (t ∷ ts)) (h None (t ∷ ts))
    by_test true = by_read (f (t ∷ ts))
    by_test false = refl
