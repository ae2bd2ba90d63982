-- A stage that goes from mark to mark.
use Rattle.std.proofs.Common.{◌≡◌, refl, sym, ap, ◌∙◌, ℕ, ◌+◌, ◌<◌, ◌≤◌, List, [], ◌∷◌, ◌++◌, length, drop, get_or, append_assoc, Option, None, Some, Result, Ok, Err, subst, IsErrAnd}
use Rattle.std.proofs.lemmas.List.{append-nil, drop_all}
use Rattle.std.specs.Result.{IsErr}
use Rattle.ir_tree.specs.declared.failure.Failure.{Failure}
use Rattle.ir_tree.specs.declared.failure.Failure.TheVariants as errors
use Rattle.ir_parse_names.specs.declared.fault.Fault.{Fault}
use Rattle.ir_parse_names.specs.Globals.{Globals}
use Rattle.ir_parse_names.specs.Marks.{Mark, type_name, type_use, shape, many, global, symbol, address}
use Rattle.ir_parse_names.specs.Resolving.{ResolvesTo, ◌>>=◌}
use Rattle.ir_parse_names.specs.Stages.{with_global_name, global_names, named, all_named}
use Rattle.ir_parse_names.specs.TypeNames.{with_first, first_types, typed_by, all_typed, place_of, put, places}
use Rattle.ir_parse_names.specs.Keys.{key_of}
use Rattle.ir_parse_names.specs.Types.{Types}
use Rattle.ir_parse_stages.specs.declared.mark.Mark as code
use Rattle.ir_parse_stages.specs.MarkViews.{standing, marks}
use Rattle.ir_parse_names.proofs.Each.{here}

value_or : {A E : Type 0} → A → Result A E → A
value_or d (Ok x) = x
value_or d (Err e) = d

pub same_value : {A E : Type 0} (x y : A) → ◌≡◌ {A = Result A E} (Ok x) (Ok y) → x ≡ y
unfolding value_or
same_value x y e = ap (value_or x) e

-- an error that is passed on
pub passed_on : {X Y : Type 0} (view : X → Y) (result : Result X (Failure Fault)) (e : Failure Fault) (r : Result Y Fault) → IsErr result × IsErrAnd result (λ d. d ≡ e) → ResolvesTo view (Err e) r → ResolvesTo view result r
passed_on view (Ok x) e r h f = absurd h.1
passed_on view (Err d) e r h f = subst (λ (x : Failure Fault). ResolvesTo view (Err x) r) (sym h.1) f

-- ---- stages

bound : {S : Type 0} (r : Result S Fault) (f g h : S → Result S Fault) → ((t : S) → f t ≡ (g t >>= h)) → (r >>= f) ≡ ((r >>= g) >>= h)
bound (Ok t) f g h p = p t
bound (Err e) f g h p = refl

abbrev pub firsts : Types → List Mark → Result Types Fault
firsts types ms = Ok (first_types types ms)

abbrev pub names : List (List ℕ) → List Mark → Result (List (List ℕ)) Fault
names found ms = Ok (global_names found ms)

abbrev pub row : Types → List ℕ → List Mark → Result (List ℕ) Fault
row types front ms = Ok (front ++ places types ms)

first_more : (types : Types) (xs ys : List Mark) → first_types types (xs ++ ys) ≡ first_types (first_types types xs) ys
first_more types [] ys = refl
first_more types (x ∷ xs) ys = first_more (with_first types x) xs ys

pub firsts_more : (types : Types) (xs ys : List Mark) → firsts types (xs ++ ys) ≡ (firsts types xs >>= λ t. firsts t ys)
firsts_more types xs ys = ap (λ (t : Types). Ok t) (first_more types xs ys)

name_more : (found : List (List ℕ)) (xs ys : List Mark) → global_names found (xs ++ ys) ≡ global_names (global_names found xs) ys
name_more found [] ys = refl
name_more found (x ∷ xs) ys = name_more (with_global_name found x) xs ys

pub names_more : (found : List (List ℕ)) (xs ys : List Mark) → names found (xs ++ ys) ≡ (names found xs >>= λ t. names t ys)
names_more found xs ys = ap (λ (t : List (List ℕ)). Ok t) (name_more found xs ys)

put_more : (o : Option ℕ) (ps qs : List ℕ) → put o (ps ++ qs) ≡ put o ps ++ qs
put_more None ps qs = refl
put_more (Some p) ps qs = refl

place_more : (types : Types) (xs ys : List Mark) → places types (xs ++ ys) ≡ places types xs ++ places types ys
place_more types [] ys = refl
place_more types (type_name name typed ∷ xs) ys = place_more types xs ys
place_more types (type_use name ∷ xs) ys = ap (put (place_of types (key_of name))) (place_more types xs ys) ∙ put_more (place_of types (key_of name)) (places types xs) (places types ys)
place_more types (shape typed ∷ xs) ys = place_more types xs ys
place_more types (many typed count ∷ xs) ys = place_more types xs ys
place_more types (global name ∷ xs) ys = place_more types xs ys
place_more types (symbol name ∷ xs) ys = place_more types xs ys
place_more types (address steps ∷ xs) ys = place_more types xs ys

pub row_more : (types : Types) (front : List ℕ) (xs ys : List Mark) → row types front (xs ++ ys) ≡ (row types front xs >>= λ t. row types t ys)
row_more types front xs ys = ap (λ (ps : List ℕ). Ok ps) (ap (λ ps. front ++ ps) (place_more types xs ys) ∙ sym (append_assoc front (places types xs) (places types ys)))

pub row_none : (types : Types) (front : List ℕ) → row types front [] ≡ Ok front
row_none types front = ap (λ (ps : List ℕ). Ok ps) (append-nil front)

pub typed_more : (all types : Types) (xs ys : List Mark) → all_typed all types (xs ++ ys) ≡ (all_typed all types xs >>= λ t. all_typed all t ys)
typed_more all types [] ys = refl
typed_more all types (x ∷ xs) ys = bound (typed_by all types x) (λ t. all_typed all t (xs ++ ys)) (λ t. all_typed all t xs) (λ t. all_typed all t ys) (λ t. typed_more all t xs ys)

pub named_more : (found : List (List ℕ)) (g : Globals) (xs ys : List Mark) → all_named found g (xs ++ ys) ≡ (all_named found g xs >>= λ h. all_named found h ys)
named_more found g [] ys = refl
named_more found g (x ∷ xs) ys = bound (named found g x) (λ t. all_named found t (xs ++ ys)) (λ t. all_named found t xs) (λ t. all_named found t ys) (λ t. named_more found t xs ys)

-- ---- loops over marks

module _ {S : Type 0} (stage : S → List Mark → Result S Fault) (more : (s : S) (xs ys : List Mark) → stage s (xs ++ ys) ≡ (stage s xs >>= λ t. stage t ys)) where
  step : (ms : List code.Mark) (k : ℕ) (m : code.Mark) (s : S) (r : Result S Fault) → k < length ms → m ≡ get_or ms k m → stage s (standing m) ≡ r
      → stage s (marks (drop k ms)) ≡ (r >>= λ t. stage t (marks (drop (k + 1) ms)))
  step ms k m s r at is e =
      ap (λ xs. stage s (marks xs)) (here ms k m at is) ∙ more s (standing m) (marks (drop (k + 1) ms)) ∙ ap (λ (q : Result S Fault). q >>= λ t. stage t (marks (drop (k + 1) ms))) e

  -- the mark that a stage stops at
  pub stops : (ms : List code.Mark) (k : ℕ) (m : code.Mark) (s : S) (e : Failure Fault) (r : Result S Fault) → k < length ms → m ≡ get_or ms k m → ResolvesTo (λ (t : S). t) (Err e) (stage s (standing m)) → stage s (marks (drop k ms)) ≡ r
      → ResolvesTo (λ (t : S). t) (Err e) r
  stops ms k m s errors.NoMemory r at is e h = tt
  stops ms k m s (errors.Fault f) r at is e h = sym h ∙ step ms k m s (Err f) at is e

  -- no more marks
  pub ends : ((s : S) → stage s [] ≡ Ok s) → (ms : List code.Mark) (k : ℕ) (s : S) (r : Result S Fault) → length ms ≤ k → stage s (marks (drop k ms)) ≡ r → r ≡ Ok s
  ends none ms k s r all h = sym h ∙ ap (λ xs. stage s (marks xs)) (drop_all k ms all) ∙ none s

  -- one more mark
  pub goes_on : (ms : List code.Mark) (k : ℕ) (m : code.Mark) (s t : S) (r : Result S Fault) → k < length ms → m ≡ get_or ms k m → stage s (standing m) ≡ Ok t → stage s (marks (drop k ms)) ≡ r
      → stage t (marks (drop (k + 1) ms)) ≡ r
  goes_on ms k m s t r at is e h = sym (step ms k m s (Ok t) at is e) ∙ h
