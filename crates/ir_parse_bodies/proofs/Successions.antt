-- Parts read one behind another: what is read, or fails, once the parts before are read.
use Rattle.std.proofs.Common.{◌≡◌, List, Result, Ok, Err, sym, ap, subst, ◌∙◌, IsErrAnd}
use Rattle.std.specs.Result.{IsErr}
use Rattle.ir_lex.specs.Tok.{Tok}
use Rattle.ir_tree.specs.declared.failure.Failure.{Failure}
use Rattle.ir_tree.specs.declared.failure.Failure.TheVariants as errors
use Rattle.ir_parse_parts.specs.declared.fault.Fault.{Fault}
use Rattle.ir_parse_parts.specs.Readers.{Fails, Reader, Returns, follow}

-- an error that is passed on
pub passed_on : {X Y : Type 0} (view : X → Y) (result : Result X (Failure Fault)) (e : Failure Fault) (read : Result Y Fault) → IsErr result × IsErrAnd result (λ d. d ≡ e) → Fails e read → Returns view result read
passed_on view (Ok x) e read h f = absurd h.1
passed_on view (Err d) e read h f = subst (λ (x : Failure Fault). Fails x read) (sym h.1) f

pub out_of_memory : {Y : Type 0} (e : Failure Fault) (read : Result Y Fault) → e ≡ errors.NoMemory → Fails e read
out_of_memory e read h = subst (λ (x : Failure Fault). Fails x read) (sym h) tt

-- the same reading, written otherwise
module _ {Y : Type 0} {read other : Result Y Fault} (same : read ≡ other) where
  pub returns_as : {X : Type 0} (view : X → Y) (result : Result X (Failure Fault)) → Returns view result other → Returns view result read
  returns_as view result h = subst (λ (y : Result Y Fault). Returns view result y) (sym same) h

  pub fails_as : (e : Failure Fault) → Fails e other → Fails e read
  fails_as e h = subst (λ (y : Result Y Fault). Fails e y) (sym same) h

-- behind a part that is read
module _ {A B : Type 0} {first : Result (A × List Tok) Fault} {a : A} {mid : List Tok} (read : first ≡ Ok (a, mid)) (behind : A → Reader Tok B) where
  goes_on : follow first behind ≡ behind a mid
  goes_on = ap (λ (r : Result (A × List Tok) Fault). follow r behind) read

  pub reads_behind : {whole : Result (B × List Tok) Fault} → behind a mid ≡ whole → follow first behind ≡ whole
  reads_behind h = goes_on ∙ h

  pub fails_behind : (e : Failure Fault) → Fails e (behind a mid) → Fails e (follow first behind)
  fails_behind e h = fails_as goes_on e h

  pub returns_behind : {X : Type 0} (view : X → B × List Tok) (result : Result X (Failure Fault)) → Returns view result (behind a mid) → Returns view result (follow first behind)
  returns_behind view result h = returns_as goes_on view result h

-- a part that is read as another
module _ {A B : Type 0} {first other : Result (A × List Tok) Fault} (same : first ≡ other) (behind : A → Reader Tok B) where
  pub within : follow first behind ≡ follow other behind
  within = ap (λ (r : Result (A × List Tok) Fault). follow r behind) same

  pub fails_within : (e : Failure Fault) → Fails e (follow other behind) → Fails e (follow first behind)
  fails_within e h = fails_as within e h

  pub returns_within : {X : Type 0} (view : X → B × List Tok) (result : Result X (Failure Fault)) → Returns view result (follow other behind) → Returns view result (follow first behind)
  returns_within view result h = returns_as within view result h

-- the last part gives nothing, and what was read before is given behind it
pub returns_through : {B : Type 0} (k : Result (Unit {0} × List Tok) Fault → Result (B × List Tok) Fault) (result : Result (Unit {0}) (Failure Fault)) (b : B) (rest : List Tok) (read : Result (Unit {0} × List Tok) Fault) → ((f : Fault) → k (Err f) ≡ Err f) → k (Ok (tt, rest)) ≡ Ok (b, rest)
    → Returns {Y = Unit {0} × List Tok} (λ (u : Unit {0}). (tt, rest)) result read → Returns {Y = B × List Tok} (λ (u : Unit {0}). (b, rest)) result (k read)
returns_through k (Ok u) b rest read p q h = ap k h ∙ q
returns_through k (Err errors.NoMemory) b rest read p q h = tt
returns_through k (Err (errors.Fault f)) b rest read p q h = ap k h ∙ p f
