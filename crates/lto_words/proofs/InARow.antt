-- What links fetch and put, one after another.
use Rattle.std.proofs.Common.{◌≡◌, ◌∙◌, ◌<◌, ◌+◌, ℕ, zero, suc, List, [], ◌∷◌, ◌++◌, length, take, drop, get_or, Option, Some, add-one, append_assoc, length-append, refl, ap, ap₂, sym, subst, arith, drop-cons, true, false}
use Rattle.std.specs.List.{AllZip}
use Rattle.std.proofs.lemmas.Grind.{take_at_read}
use Rattle.std.proofs.lemmas.List.{take-append-drop}
use Rattle.std.proofs.lemmas.Option.{slice_get-get_or}
use Rattle.lto_outside.specs.Calls.{Call, Fetched, Put}
use Rattle.lto_outside.specs.declared.fault.FetchFault.TheVariants.{Fault}
use Rattle.lto_words.specs.Fetching.{FetchFailed, fetch_call, fetch_calls}
use Rattle.lto_words.specs.Links.{GivenFor, PutFailed, all_files, all_given, puts}
use Rattle.lto_words.specs.declared.listing.ListedLink.{ListedLink}
use Rattle.std.proofs.Common.{Err}

-- ---- lists

zip_more : {A B : Type 0} (R : A → B → Type 0) (xs : List A) (ys : List B) (x : A) (y : B) → AllZip R xs ys → R x y → AllZip R (xs ++ x ∷ []) (ys ++ y ∷ [])
zip_more R [] [] x y all one = (one, tt)
zip_more R [] (b ∷ ys) x y all one = absurd all
zip_more R (a ∷ xs) [] x y all one = absurd all
zip_more R (a ∷ xs) (b ∷ ys) x y all one = (all.0, zip_more R xs ys x y all.1 one)

all_files-append : (links more : List ListedLink) → all_files (links ++ more) ≡ all_files links ++ all_files more
all_files-append [] more = refl
all_files-append (link ∷ links) more = ap (λ (l : List (List ℕ)). link.files ++ l) (all_files-append links more) ∙ sym (append_assoc link.files (all_files links) (all_files more))

all_given-append : (given more : List (List (Option (List ℕ)))) → all_given (given ++ more) ≡ all_given given ++ all_given more
all_given-append [] more = refl
all_given-append (g ∷ given) more = ap (λ (l : List (Option (List ℕ))). g ++ l) (all_given-append given more) ∙ sym (append_assoc g (all_given given) (all_given more))

append_none : {X : Type 0} (xs : List X) → xs ++ [] ≡ xs
append_none [] = refl
append_none (x ∷ xs) = ap (λ (l : List _). x ∷ l) (append_none xs)

-- as many were given as there are files
pub as_many : (links : List ListedLink) (given : List (List (Option (List ℕ)))) → AllZip GivenFor links given → length (all_given given) ≡ length (all_files links)
as_many [] [] z = refl
as_many [] (g ∷ given) z = absurd z
as_many (link ∷ links) [] z = absurd z
as_many (link ∷ links) (g ∷ given) z =
    let rest : length (all_given given) ≡ length (all_files links) = as_many links given z.1 in
    omega (arith, length-append g (all_given given), length-append link.files (all_files links), z.0.each, rest)

-- what is left, as its first item and the rest
here_and_behind : (links : List ListedLink) (i : ℕ) (link : ListedLink) → i < length links → link ≡ get_or links i link → links ≡ take i links ++ link ∷ drop (suc i) links
here_and_behind links i link lt is =
    sym (take-append-drop i links) ∙ ap (λ (l : List ListedLink). take i links ++ l) (drop-cons links i link lt) ∙ ap (λ (z : ListedLink). take i links ++ z ∷ drop (suc i) links) (sym is)

one_further : (links : List ListedLink) (i : ℕ) (link : ListedLink) → i < length links → link ≡ get_or links i link → take (i + 1) links ≡ take i links ++ link ∷ []
one_further links i link lt is = (take_at_read links i link lt).1 ∙ ap (λ (z : ListedLink). take i links ++ z ∷ []) (sym is)

-- ---- fetches

fetch_calls-append : (names more : List (List ℕ)) (given rest : List (Option (List ℕ))) → length given ≡ length names → fetch_calls (names ++ more) (given ++ rest) ≡ fetch_calls names given ++ fetch_calls more rest
fetch_calls-append [] more [] rest e = refl
fetch_calls-append [] more (g ∷ given) rest e = absurd (omega (arith, e))
fetch_calls-append (n ∷ names) more [] rest e = absurd (omega (arith, e))
fetch_calls-append (n ∷ names) more (g ∷ given) rest e = ap (λ (l : List Call). fetch_call n g ∷ l) (fetch_calls-append names more given rest (omega (arith, e)))

module _ {F : Type 0} (did : F → List Call → F → Type 0)
    (more : (a b c : F) (first rest : List Call) → did a first b → did b rest c → did a (first ++ rest) c)
    (a b c : F) (links : List ListedLink) (i : ℕ) (link : ListedLink) (given : List (List (Option (List ℕ)))) where
  -- the files of one link more
  pub link_fetched : (next : List (List (Option (List ℕ)))) (g : List (Option (List ℕ))) → next ≡ given ++ g ∷ [] → AllZip GivenFor (take i links) given → i < length links → link ≡ get_or links i link
      → did a (fetch_calls (all_files (take i links)) (all_given given)) b → did b (fetch_calls link.files g) c → did a (fetch_calls (all_files (take (i + 1) links)) (all_given next)) c
  link_fetched next g next_is each lt is before now = subst (λ (l : List Call). did a l c) (sym calls) (more a b c (fetch_calls (all_files (take i links)) (all_given given)) (fetch_calls link.files g) before now)
    where
      names : all_files (take (i + 1) links) ≡ all_files (take i links) ++ link.files
      names = ap all_files (one_further links i link lt is) ∙ all_files-append (take i links) (link ∷ []) ∙ ap (λ (l : List (List ℕ)). all_files (take i links) ++ l) (append_none link.files)

      gives : all_given next ≡ all_given given ++ g
      gives = ap all_given next_is ∙ all_given-append given (g ∷ []) ∙ ap (λ (l : List (Option (List ℕ))). all_given given ++ l) (append_none g)

      calls : fetch_calls (all_files (take (i + 1) links)) (all_given next) ≡ fetch_calls (all_files (take i links)) (all_given given) ++ fetch_calls link.files g
      calls = ap₂ fetch_calls names gives ∙ fetch_calls-append (all_files (take i links)) link.files (all_given given) g (as_many (take i links) given each)

  pub link_each : (next : List (List (Option (List ℕ)))) (g : List (Option (List ℕ))) → next ≡ given ++ g ∷ [] → AllZip GivenFor (take i links) given → GivenFor link g → i < length links → link ≡ get_or links i link
      → AllZip GivenFor (take (i + 1) links) next
  link_each next g next_is each this lt is =
      subst (AllZip GivenFor (take (i + 1) links)) (sym next_is)
      (subst (λ (l : List ListedLink). AllZip GivenFor l (given ++ g ∷ [])) (sym (one_further links i link lt is)) (zip_more GivenFor (take i links) given link g each this))

  -- one of them failed
  pub link_failed : (name : List ℕ) → AllZip GivenFor (take i links) given → i < length links → link ≡ get_or links i link
      → did a (fetch_calls (all_files (take i links)) (all_given given)) b → FetchFailed (λ calls. did b calls c) link.files name → FetchFailed (λ calls. did a calls c) (all_files links) name
  link_failed name each lt is before f = record {
    before = all_files (take i links) ++ f.before;
    behind = f.behind ++ all_files (drop (suc i) links);
    split = split;
    given = all_given given ++ f.given;
    each = omega (arith, length-append (all_given given) f.given, length-append (all_files (take i links)) f.before, as_many (take i links) given each, f.each);
    calls = subst (λ (l : List Call). did a l c) (sym calls) (more a b c (fetch_calls (all_files (take i links)) (all_given given)) (fetch_calls f.before f.given ++ Fetched name (Err Fault) ∷ []) before f.calls);
  }
    where
      split : all_files links ≡ (all_files (take i links) ++ f.before) ++ name ∷ (f.behind ++ all_files (drop (suc i) links))
      split =
          ap all_files (here_and_behind links i link lt is) ∙ all_files-append (take i links) (link ∷ drop (suc i) links)
          ∙ ap (λ (l : List (List ℕ)). all_files (take i links) ++ (l ++ all_files (drop (suc i) links))) f.split
          ∙ ap (λ (l : List (List ℕ)). all_files (take i links) ++ l) (append_assoc f.before (name ∷ f.behind) (all_files (drop (suc i) links)))
          ∙ sym (append_assoc (all_files (take i links)) f.before (name ∷ (f.behind ++ all_files (drop (suc i) links))))

      calls : fetch_calls (all_files (take i links) ++ f.before) (all_given given ++ f.given) ++ Fetched name (Err Fault) ∷ []
          ≡ fetch_calls (all_files (take i links)) (all_given given) ++ (fetch_calls f.before f.given ++ Fetched name (Err Fault) ∷ [])
      calls =
          ap (λ (l : List Call). l ++ Fetched name (Err Fault) ∷ []) (fetch_calls-append (all_files (take i links)) f.before (all_given given) f.given (as_many (take i links) given each))
          ∙ append_assoc (fetch_calls (all_files (take i links)) (all_given given)) (fetch_calls f.before f.given) (Fetched name (Err Fault) ∷ [])

-- ---- puts

puts_next : (links : List ListedLink) (texts : List (List ℕ)) (i : ℕ) (link : ListedLink) (text : List ℕ) → i < length links → i < length texts → link ≡ get_or links i link → text ≡ get_or texts i text
    → puts (take (suc i) links) (take (suc i) texts) ≡ puts (take i links) (take i texts) ++ Put link.out text true ∷ []
puts_next [] texts i link text lt within is text_is = absurd (omega (arith, lt))
puts_next (l ∷ links) [] i link text lt within is text_is = absurd (omega (arith, within))
puts_next (l ∷ links) (t ∷ texts) zero link text lt within is text_is = ap₂ (λ (k : ListedLink) (u : List ℕ). Put k.out u true ∷ []) (sym is) (sym text_is)
puts_next (l ∷ links) (t ∷ texts) (suc i) link text lt within is text_is = ap (λ (cs : List Call). Put l.out t true ∷ cs) (puts_next links texts i link text (omega (arith, lt)) (omega (arith, within)) is text_is)

module _ {F : Type 0} (did : F → List Call → F → Type 0)
    (more : (a b c : F) (first rest : List Call) → did a first b → did b rest c → did a (first ++ rest) c)
    (a b c : F) (links : List ListedLink) (texts : List (List ℕ)) (i : ℕ) (link : ListedLink) (text : List ℕ) (lt : i < length links) (within : i < length texts) (is : link ≡ get_or links i link) (text_is : text ≡ get_or texts i text) where
  -- one put more
  pub link_put : did a (puts (take i links) (take i texts)) b → did b (Put link.out text true ∷ []) c → did a (puts (take (i + 1) links) (take (i + 1) texts)) c
  link_put before now =
      subst (λ (n : ℕ). did a (puts (take n links) (take n texts)) c) (sym (add-one i))
      (subst (λ (l : List Call). did a l c) (sym (puts_next links texts i link text lt within is text_is)) (more a b c (puts (take i links) (take i texts)) (Put link.out text true ∷ []) before now))

  -- one that failed
  pub link_unput : did a (puts (take i links) (take i texts)) b → did b (Put link.out text false ∷ []) c → PutFailed (λ calls. did a calls c) links texts i
  link_unput before now = record {
    link = link;
    text = text;
    of_link = slice_get-get_or links i link lt ∙ ap (λ (l : ListedLink). Some l) (sym is);
    of_text = slice_get-get_or texts i text within ∙ ap (λ (t : List ℕ). Some t) (sym text_is);
    calls = more a b c (puts (take i links) (take i texts)) (Put link.out text false ∷ []) before now;
  }
