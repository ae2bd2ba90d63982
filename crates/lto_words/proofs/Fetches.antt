-- Fetches in a row.
use Rattle.std.proofs.Common.{◌≡◌, ◌<◌, ℕ, suc, ◌+◌, List, [], ◌∷◌, ◌++◌, length, take, drop, get_or, Option, Err, refl, ap, sym, ◌∙◌, subst, arith, drop-cons}
use Rattle.std.proofs.lemmas.Grind.{take_at_read}
use Rattle.std.proofs.lemmas.List.{length-take-le, take-append-drop}
use Rattle.lto_outside.specs.Calls.{Call, DidNoPut, Fetched, NoPut, Put}
use Rattle.lto_outside.specs.declared.fault.FetchFault.TheVariants.{Fault}
use Rattle.ir_tree.specs.Failures.{IfFault}
use Rattle.lto_words.specs.Fetching.{FetchFailed, FetchStopped, IsTried, fetch_call, fetch_calls}
use Rattle.ir_tree.specs.declared.failure.Failure.{Failure}
use Rattle.ir_tree.specs.declared.failure.Failure.TheVariants as error

pub if_fault_map : (e : Failure (List ℕ)) (P Q : List ℕ → Type 0) → ((name : List ℕ) → P name → Q name) → IfFault e P → IfFault e Q
if_fault_map (error.Fault name) P Q f h = f name h
if_fault_map error.NoMemory P Q f h = tt

-- ---- calls that put nothing

no_put_both : (first rest : List Call) → NoPut first → NoPut rest → NoPut (first ++ rest)
no_put_both [] rest a b = b
no_put_both (Fetched name answer ∷ first) rest a b = no_put_both first rest a b
no_put_both (Put name bytes done ∷ first) rest a b = absurd a

module _ {F : Type 0} (did : F → List Call → F → Type 0) where
  pub no_put_none : (a : F) → did a [] a → DidNoPut (λ calls. did a calls a)
  no_put_none a none = record { calls = []; made = none; no_put = tt }

  module _ (more : (a b c : F) (first rest : List Call) → did a first b → did b rest c → did a (first ++ rest) c) (a b c : F) where
    pub no_put_more : DidNoPut (λ calls. did a calls b) → DidNoPut (λ calls. did b calls c) → DidNoPut (λ calls. did a calls c)
    no_put_more first rest = record {
      calls = first.calls ++ rest.calls;
      made = more a b c first.calls rest.calls first.made rest.made;
      no_put = no_put_both first.calls rest.calls first.no_put rest.no_put;
    }

-- ---- fetches of files

pub fetch_calls-more : (names : List (List ℕ)) (given : List (Option (List ℕ))) (name : List ℕ) (bytes : Option (List ℕ)) → length given ≡ length names
    → fetch_calls (names ++ name ∷ []) (given ++ bytes ∷ []) ≡ fetch_calls names given ++ fetch_call name bytes ∷ []
fetch_calls-more [] [] name bytes e = refl
fetch_calls-more [] (g ∷ given) name bytes e = absurd (omega (arith, e))
fetch_calls-more (n ∷ names) [] name bytes e = absurd (omega (arith, e))
fetch_calls-more (n ∷ names) (g ∷ given) name bytes e = ap (λ (l : List Call). fetch_call n g ∷ l) (fetch_calls-more names given name bytes (omega (arith, e)))

-- a list is what stands before a place, what stands there, and what stands behind it
split_at : (xs : List (List ℕ)) (i : ℕ) (x : List ℕ) → i < length xs → x ≡ get_or xs i x → xs ≡ take i xs ++ x ∷ drop (suc i) xs
split_at xs i x lt is =
    sym (take-append-drop i xs) ∙ ap (λ (l : List (List ℕ)). take i xs ++ l) (drop-cons xs i x lt) ∙ ap (λ (z : List ℕ). take i xs ++ z ∷ drop (suc i) xs) (sym is)

take_more : (xs : List (List ℕ)) (i : ℕ) (x : List ℕ) → i < length xs → x ≡ get_or xs i x → take (i + 1) xs ≡ take i xs ++ x ∷ []
take_more xs i x lt is = (take_at_read xs i x lt).1 ∙ ap (λ (z : List ℕ). take i xs ++ z ∷ []) (sym is)

module _ {F : Type 0} (did : F → List Call → F → Type 0)
    (more : (a b c : F) (first rest : List Call) → did a first b → did b rest c → did a (first ++ rest) c)
    (a b c : F) (names : List (List ℕ)) (i : ℕ) (name : List ℕ) (given : List (Option (List ℕ))) where
  -- one fetch more
  pub one_more : (next : List (Option (List ℕ))) (bytes : Option (List ℕ)) → next ≡ given ++ bytes ∷ [] → length given ≡ i → i < length names → name ≡ get_or names i name
      → did a (fetch_calls (take i names) given) b → did b (fetch_call name bytes ∷ []) c → did a (fetch_calls (take (i + 1) names) next) c
  one_more next bytes next_is each lt is before now = subst (λ (l : List Call). did a l c) (sym calls) (more a b c (fetch_calls (take i names) given) (fetch_call name bytes ∷ []) before now)
    where
      calls : fetch_calls (take (i + 1) names) next ≡ fetch_calls (take i names) given ++ fetch_call name bytes ∷ []
      calls =
          ap (λ (l : List (List ℕ)). fetch_calls l next) (take_more names i name lt is) ∙ ap (fetch_calls (take i names ++ name ∷ [])) next_is
          ∙ fetch_calls-more (take i names) given name bytes (each ∙ sym (length-take-le i names (omega arith)))

  -- a fetch that failed
  pub one_failed : length given ≡ i → i < length names → name ≡ get_or names i name
      → did a (fetch_calls (take i names) given) b → did b (Fetched name (Err Fault) ∷ []) c → FetchFailed (λ calls. did a calls c) names name
  one_failed each lt is before now = record {
    before = take i names;
    behind = drop (suc i) names;
    split = split_at names i name lt is;
    given = given;
    each = each ∙ sym (length-take-le i names (omega arith));
    calls = more a b c (fetch_calls (take i names) given) (Fetched name (Err Fault) ∷ []) before now;
  }

  -- the last fetch, whatever it gave
  pub one_stopped : length given ≡ i → i < length names → name ≡ get_or names i name
      → did a (fetch_calls (take i names) given) b → IsTried (λ calls. did b calls c) name → FetchStopped (λ calls. did a calls c) names
  one_stopped each lt is before tried = record {
    before = take i names;
    last = name;
    behind = drop (suc i) names;
    split = split_at names i name lt is;
    given = given;
    each = each ∙ sym (length-take-le i names (omega arith));
    answer = tried.answer;
    calls = more a b c (fetch_calls (take i names) given) (Fetched name tried.answer ∷ []) before tried.call;
  }
