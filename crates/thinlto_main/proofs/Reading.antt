-- How files are read one after another.
use Rattle.std.proofs.Common.{◌≡◌, ◌<◌, ◌∙◌, ◌+◌, ℕ, zero, suc, List, [], ◌∷◌, ◌++◌, length, map, take, get_or, Option, Some, None, All, refl, sym, ap, subst, inl, inr, arith}
use Rattle.std.proofs.lemmas.List.{map-append, take_more}
use Rattle.std.specs.List.{AllZip}
use Rattle.std.proofs.lemmas.Slice.Zip.{AllZip-long}
use Rattle.ir_tree.specs.declared.module.Module.{Module}
use Rattle.link_one.specs.Laws.{AcceptedIsOne}
use Rattle.lto_fault.specs.declared.kind.RefusalKind.{RefusalKind}
use Rattle.lto_fault.specs.declared.refusal.Refusal.{Refusal}
use Rattle.ir_tree.specs.Failures.{IfFault}
use Rattle.lto_words.specs.Fetching.{FetchFailed, fetch_calls}
use Rattle.ir_tree.specs.declared.failure.Failure.{Failure}
use Rattle.ir_tree.specs.declared.failure.Failure.TheVariants as error
use Rattle.lto_outside.specs.Cause.{Rose}
use Rattle.lto_outside.specs.Calls.{Call, DidNoPut, NoPut}
use Rattle.lto_outside.specs.Seen.{FilesSeen}
use Rattle.run_program.specs.Causes.{Because, never}
use Rattle.thinlto_main.specs.Modules.{AreFetched, AreRead, FirstBad, IsBad, IsRead, reading, unfetched}
use Rattle.run_program.proofs.Causes.{because_map}

-- fetches put nothing
pub no_put_fetches : (names : List (List ℕ)) (given : List (Option (List ℕ))) → NoPut (fetch_calls names given)
no_put_fetches [] given = tt
no_put_fetches (name ∷ names) [] = tt
no_put_fetches (name ∷ names) (Some bytes ∷ given) = no_put_fetches names given
no_put_fetches (name ∷ names) (None ∷ given) = no_put_fetches names given

pub fetched_no_put : (names : List (List ℕ)) (given : List (Option (List ℕ))) (did : List Call → Type 0) → AreFetched names given did → DidNoPut did
fetched_no_put names given did f = record { calls = fetch_calls names given; made = f.calls; no_put = no_put_fetches names given }

-- there are as many modules as files
pub as_many : (names : List (List ℕ)) (did : List Call → Type 0) (ms : List Module) → AreRead names did ms → length names ≡ length ms
as_many names did ms r = sym r.fetched.each ∙ sym (AllZip-long IsRead r.given ms r.read)

-- what is given at a place is short
pub at_place : {X : Type 0} (P : X → Type 0) (xs : List X) (i : ℕ) (x : X) → All P xs → i < length xs → x ≡ get_or xs i x → P x
at_place P xs i x all lt is = subst P (sym is) (all i x lt)

-- one more is copied
pub copied_next : {X : Type 0} (xs : List X) (i : ℕ) (x y : X) (out after : List X) → i < length xs → x ≡ get_or xs i x → y ≡ x → out ≡ take i xs → after ≡ out ++ y ∷ [] → after ≡ take (i + 1) xs
copied_next {X} xs i x y out after lt is same before pushed =
    pushed ∙ ap (λ (l : List X). l ++ y ∷ []) before ∙ ap (λ (z : X). take i xs ++ z ∷ []) (same ∙ is) ∙ sym (take_more xs i x lt)

-- and of what is made of what is mapped
pub mapped_next : {X Y Z : Type 0} (f : X → Y) (g : Y → Z) (xs : List X) (i : ℕ) (x : X) (z : Z) (out after : List Z) → i < length xs → x ≡ get_or xs i x → z ≡ g (f x) → out ≡ map g (map f (take i xs))
    → after ≡ out ++ z ∷ [] → after ≡ map g (map f (take (i + 1) xs))
mapped_next {X} {Y} {Z} f g xs i x z out after lt is same before pushed =
    let here : X = get_or xs i x in
    pushed ∙ ap (λ (l : List Z). l ++ z ∷ []) before ∙ ap (λ (w : Z). map g (map f (take i xs)) ++ w ∷ []) (same ∙ ap (λ (w : X). g (f w)) is)
    ∙ sym (map-append g (map f (take i xs)) (f here ∷ [])) ∙ ap (λ (l : List Y). map g l) (sym (map-append f (take i xs) (here ∷ []))) ∙ ap (λ (l : List X). map g (map f l)) (sym (take_more xs i x lt))

-- a file that isn't read, behind others that are
pub first_bad : (names : List (List ℕ)) (given : List (Option (List ℕ))) (ms : List Module) (i : ℕ) (name : List ℕ) (bytes : Option (List ℕ)) (file : List ℕ) (line : ℕ) (kind : RefusalKind)
    → length given ≡ length names → i < length names → name ≡ get_or names i name → bytes ≡ get_or given i bytes → AllZip IsRead (take i given) ms
    → (file ≡ name) × IsBad bytes line kind → FirstBad names given file line kind
first_bad [] given ms i name bytes file line kind each lt name_is bytes_is read bad = absurd (omega (arith, lt))
first_bad (n ∷ names) [] ms i name bytes file line kind each lt name_is bytes_is read bad = absurd (omega (arith, each))
first_bad (n ∷ names) (b ∷ given) ms zero name bytes file line kind each lt name_is bytes_is read bad = inl (bad.0 ∙ name_is, subst (λ (o : Option (List ℕ)). IsBad o line kind) bytes_is bad.1)
first_bad (n ∷ names) (b ∷ given) [] (suc i) name bytes file line kind each lt name_is bytes_is read bad = absurd read
first_bad (n ∷ names) (b ∷ given) (m ∷ ms) (suc i) name bytes file line kind each lt name_is bytes_is read bad =
    inr ((m, read.0), first_bad names given ms i name bytes file line kind (omega (arith, each)) (omega (arith, lt)) name_is bytes_is read.1 bad)

-- ---- answers

-- of a file that is refused, that it is bad
pub bad_because : (name : List ℕ) (bytes : Option (List ℕ)) (line : ℕ) (kind : RefusalKind) → IsBad bytes line kind → (why : Refusal)
    → Because (record never { refused = λ file at told. (file ≡ name) × (at ≡ line) × (told ≡ kind); memory = Unit {0} }) why
    → Because (record never { refused = λ file at told. (file ≡ name) × IsBad bytes at told; memory = Unit {0} }) why
bad_because name bytes line kind bad why h =
    because_map {k = record never { refused = λ file at told. (file ≡ name) × (at ≡ line) × (told ≡ kind); memory = Unit {0} }} {l = record never { refused = λ file at told. (file ≡ name) × IsBad bytes at told; memory = Unit {0} }} (record {
      done = λ x. x;
      usage = λ x. x;
      unread = λ n x. x;
      refused = λ file at told x. (x.0, subst (λ (n : ℕ). IsBad bytes n told) (sym x.1) (subst (λ (k : RefusalKind). IsBad bytes line k) (sym x.2) bad));
      unlinked = λ w x. x;
      unfit = λ n x. x;
      unwritten = λ n x. x;
      unreturned = λ w x. x;
      memory = λ x. x;
    }) why h

-- and of the first of all that isn't read
pub first_because : (names : List (List ℕ)) (given : List (Option (List ℕ))) (ms : List Module) (i : ℕ) (name : List ℕ) (bytes : Option (List ℕ))
    → length given ≡ length names → i < length names → name ≡ get_or names i name → bytes ≡ get_or given i bytes → AllZip IsRead (take i given) ms → (why : Refusal)
    → Because (record never { refused = λ file at told. (file ≡ name) × IsBad bytes at told; memory = Unit {0} }) why
    → Because (record never { refused = FirstBad names given; memory = Unit {0} }) why
first_because names given ms i name bytes each lt name_is bytes_is read why h =
    because_map {k = record never { refused = λ file at told. (file ≡ name) × IsBad bytes at told; memory = Unit {0} }} {l = record never { refused = FirstBad names given; memory = Unit {0} }} (record {
      done = λ x. x;
      usage = λ x. x;
      unread = λ n x. x;
      refused = λ file line kind x. first_bad names given ms i name bytes file line kind each lt name_is bytes_is read x;
      unlinked = λ w x. x;
      unfit = λ n x. x;
      unwritten = λ n x. x;
      unreturned = λ w x. x;
      memory = λ x. x;
    }) why h

-- of fetches, one of which failed
pub unfetched_because : (names : List (List ℕ)) (files : FilesSeen) (e : Failure (List ℕ)) → IfFault e (λ name. FetchFailed files.did names name × Rose files.faults files.faults_now) → DidNoPut files.did
    → Because (reading names files) (unfetched e)
unfetched_because names files (error.Fault name) failed calm = record { failed = failed.0; rose = failed.1 }
unfetched_because names files error.NoMemory failed calm = calm

-- of a reader that answers for a file, that the command answers
pub read_because : (names : List (List ℕ)) (given : List (Option (List ℕ))) (files : FilesSeen) → AreFetched names given files.did → (why : Refusal)
    → Because (record never { refused = FirstBad names given; memory = Unit {0} }) why → Because (reading names files) why
read_because names given files fetched why h =
    because_map {k = record never { refused = FirstBad names given; memory = Unit {0} }} {l = reading names files} (record {
      done = λ x. x;
      usage = λ x. x;
      unread = λ name x. absurd x;
      refused = λ file line kind first. record { given = given; fetched = fetched; first = first };
      unlinked = λ w x. x;
      unfit = λ n x. x;
      unwritten = λ name x. x;
      unreturned = λ w x. x;
      memory = λ x. fetched_no_put names given files.did fetched;
    }) why h

-- what is given is read as one list of modules
pub one_reading : AcceptedIsOne → (given : List (Option (List ℕ))) (ms ns : List Module) → AllZip IsRead given ms → AllZip IsRead given ns → ms ≡ ns
one_reading one [] [] [] a b = refl
one_reading one [] [] (n ∷ ns) a b = absurd b
one_reading one [] (m ∷ ms) ns a b = absurd a
one_reading one (g ∷ given) [] ns a b = absurd a
one_reading one (g ∷ given) (m ∷ ms) [] a b = absurd b
one_reading one (None ∷ given) (m ∷ ms) (n ∷ ns) a b = absurd a.0
one_reading one (Some bytes ∷ given) (m ∷ ms) (n ∷ ns) a b = let first : m ≡ n = one bytes m n a.0.1 b.0.1 in let rest : ms ≡ ns = one_reading one given ms ns a.1 b.1 in λ i. first i ∷ rest i
