-- A batch of links.
use Rattle.std.proofs.Common.{◌≡◌, ◌<◌, ◌∙◌, ℕ, zero, suc, ◌+◌, List, [], ◌∷◌, ◌++◌, length, take, get_or, OnOk, Option, Some, Result, Ok, Err, ap, inl, inr, refl, sym, subst, arith}
use Rattle.std.specs.List.{AllZip}
use Rattle.std.specs.Prelude.{IfErr, slice_get}
use Rattle.std.proofs.lemmas.Grind.{take_at_read}
use Rattle.std.proofs.lemmas.Option.{get_or_from_slice_get}
use Rattle.link_one.proofs.Zipping.{zip_more}
use Rattle.lto_fault.specs.declared.kind.RefusalKind.{RefusalKind}
use Rattle.lto_outside.specs.Calls.{Call, DidNoPut, Fetched}
use Rattle.lto_outside.specs.Cause.{Rose}
use Rattle.lto_outside.specs.declared.fault.FetchFault.TheVariants.{Fault}
use Rattle.lto_outside.specs.Seen.{FilesSeen}
use Rattle.lto_words.specs.declared.request.LinkOptions.{LinkOptions}
use Rattle.ir_tree.specs.Failures.{IfFault}
use Rattle.lto_words.specs.Fetching.{FetchFailed, fetch_call, fetch_calls}
use Rattle.lto_words.specs.Links.{GivenFor, PutFailed, all_files, all_given, puts}
use Rattle.ir_tree.specs.declared.failure.Failure.{Failure}
use Rattle.ir_tree.specs.declared.failure.Failure.TheVariants as error
use Rattle.lto_words.specs.declared.listing.ListedLink.{ListedLink}
use Rattle.lto_fault.specs.declared.refusal.Refusal.{Refusal}
use Rattle.lto_fault.specs.declared.refusal.Refusal.TheVariants.{WriteFault}
use Rattle.run_program.specs.Causes.{Because, Comes, never}
use Rattle.run_program.proofs.Causes.{Implies}
use Rattle.thinlto_main.specs.Batching.{AreGiven, AreLinkable, BatchCannotWrite, DidBatch, FirstLink, HasListed, IsBadList, LinksCannotFetch, batching, fetching, listing}
use Rattle.thinlto_main.specs.Keys.{IsKeyAmong, IsKeyOfList}
use Rattle.thinlto_main.specs.Linking.{IsLinkable, IsMadeIf, IsUnlinkable}
use Rattle.thinlto_main.specs.Modules.{FirstBad, unfetched}
use Rattle.thinlto_main.proofs.Reading.{no_put_fetches}

-- ---- the list file

-- a list that is refused is bad
pub list_refused : (list : List ℕ) (files : FilesSeen) (given : Option (List ℕ)) (P : ℕ → RefusalKind → Type 0) → ((line : ℕ) (kind : RefusalKind) → P line kind → IsBadList given line kind) → files.did (fetch_call list given ∷ []) → DidNoPut files.did
    → Implies (record never { refused = λ file line kind. (file ≡ list) × P line kind; memory = Unit {0} }) (listing list files)
list_refused list files given P bad calls calm = record {
  done = λ x. x;
  usage = λ x. x;
  unread = λ name x. absurd x;
  refused = λ file line kind x. record { named = x.0; given = given; calls = calls; bad = bad line kind x.1 };
  unlinked = λ why x. x;
  unfit = λ name x. x;
  unwritten = λ name x. x;
  unreturned = λ why x. x;
  memory = λ x. calm;
}

-- it can't be fetched
pub list_unfetched : (list : List ℕ) (files : FilesSeen) (e : Failure (List ℕ)) → IfFault e (λ name. (name ≡ list) × files.did (Fetched list (Err Fault) ∷ []) × Rose files.faults files.faults_now) → DidNoPut files.did
    → Because (listing list files) (unfetched e)
list_unfetched list files (error.Fault name) failed calm = record {
  failed = record {
    before = [];
    behind = [];
    split = ap (λ (n : List ℕ). n ∷ []) (sym failed.0);
    given = [];
    each = refl;
    calls = subst (λ (n : List ℕ). files.did (Fetched n (Err Fault) ∷ [])) (sym failed.0) failed.1;
  };
  rose = failed.2;
}
list_unfetched list files error.NoMemory failed calm = calm

-- why there are no links is why their files can't be had
pub listing_stops : (list : List ℕ) (files : FilesSeen) → Implies (listing list files) (fetching list files)
listing_stops list files = record {
  done = λ x. x;
  usage = λ x. x;
  unread = λ name x. inl x;
  refused = λ file line kind x. x;
  unlinked = λ why x. x;
  unfit = λ name x. x;
  unwritten = λ name x. x;
  unreturned = λ why x. x;
  memory = λ x. x;
}

-- and that is why there is no batch
pub fetching_stops : (options : LinkOptions) (list : List ℕ) (trusted : Type 0) (files : FilesSeen) → Implies (fetching list files) (batching options list trusted files)
fetching_stops options list trusted files = record {
  done = λ x. absurd x;
  usage = λ x. x;
  unread = λ name x. x;
  refused = λ file line kind x. inl x;
  unlinked = λ why x. absurd x;
  unfit = λ name x. x;
  unwritten = λ name x. absurd x;
  unreturned = λ why x. x;
  memory = λ x. x;
}

-- ---- the files of its links

pub unfetched_stops : (list : List ℕ) (files : FilesSeen) (e : Failure (List ℕ)) → IfFault e (LinksCannotFetch list files) → DidNoPut files.did → Because (fetching list files) (unfetched e)
unfetched_stops list files (error.Fault name) failed calm = inr failed
unfetched_stops list files error.NoMemory failed calm = calm

module _ {F : Type 0} (did : F → List Call → F → Type 0)
    (more : (a b c : F) (first rest : List Call) → did a first b → did b rest c → did a (first ++ rest) c) (a b c : F) (list : List ℕ) (links : List ListedLink) where
  pub links_failed : (h : HasListed list links (λ calls. did a calls b)) (name : List ℕ) → FetchFailed (λ calls. did b calls c) (all_files links) name → FetchFailed (λ calls. did a (Fetched list (Ok h.bytes) ∷ calls) c) (all_files links) name
  links_failed h name f = record { before = f.before; behind = f.behind; split = f.split; given = f.given; each = f.each; calls = more a b c (Fetched list (Ok h.bytes) ∷ []) _ h.calls f.calls }

  pub are_given : (given : List (List (Option (List ℕ)))) → HasListed list links (λ calls. did a calls b) → AllZip GivenFor links given → did b (fetch_calls (all_files links) (all_given given)) c → AreGiven list links given (λ calls. did a calls c)
  are_given given h each calls = record { bytes = h.bytes; short = h.short; is = h.is; each = each; calls = more a b c (Fetched list (Ok h.bytes) ∷ []) _ h.calls calls }

  pub list_no_put : HasListed list links (λ calls. did a calls b) → DidNoPut (λ calls. did a calls b)
  list_no_put h = record { calls = Fetched list (Ok h.bytes) ∷ []; made = h.calls; no_put = tt }

  pub links_stuck : (h : HasListed list links (λ calls. did a calls b)) (files : FilesSeen) → ((calls : List Call) → did a calls c → files.did calls) → Rose files.faults files.faults_now → (name : List ℕ)
      → FetchFailed (λ calls. did b calls c) (all_files links) name → LinksCannotFetch list files name
  links_stuck h files shows rose name f =
      let g = links_failed h name f in
      record { bytes = h.bytes; links = links; is = h.is; failed = record { before = g.before; behind = g.behind; split = g.split; given = g.given; each = g.each; calls = shows _ g.calls }; rose = rose }

  module _ (options : LinkOptions) (trusted : Type 0) (given : List (List (Option (List ℕ)))) (texts : List (List ℕ)) (g : AreGiven list links given (λ calls. did a calls b)) (linkable : AreLinkable options links given)
      (made : AllZip (IsMadeIf trusted options) given texts) (files : FilesSeen) (shows : (calls : List Call) → did a calls c → files.did calls) where
    pub did_batch : did b (puts links texts) c → DidBatch options list trusted files
    did_batch stored = record {
      links = links;
      given = given;
      texts = texts;
      fetched = record { bytes = g.bytes; short = g.short; is = g.is; each = g.each; calls = shows _ (more a b c _ _ g.calls stored) };
      linkable = linkable;
      made = made;
    }

    pub batch_stuck : (at : ℕ) (name : List ℕ) (f : PutFailed (λ calls. did b calls c) links texts at) → name ≡ f.link.out → Rose files.faults files.faults_now → BatchCannotWrite options list trusted files name
    batch_stuck at name f named rose = record {
      links = links;
      given = given;
      texts = texts;
      at = at;
      fetched = record {
        bytes = g.bytes;
        short = g.short;
        is = g.is;
        each = g.each;
        calls = record { link = f.link; text = f.text; of_link = f.of_link; of_text = f.of_text; calls = shows _ (more a b c _ _ g.calls f.calls) };
      };
      linkable = linkable;
      made = made;
      named = named;
      rose = rose;
    }

    -- what comes of the puts
    pub batch_comes : {A : Type 0} (faults : ℕ) → (Rose faults files.faults_now → Rose files.faults files.faults_now) → (r : Result A Refusal) → OnOk r (did b (puts links texts) c)
        → IfErr r (λ why. (at : ℕ) × ((f : PutFailed (λ calls. did b calls c) links texts at) × (why ≡ WriteFault f.link.out)) × Rose faults files.faults_now) → Comes (batching options list trusted files) r
    batch_comes faults later (Ok x) done failed = did_batch done
    batch_comes faults later (Err why) done failed =
        subst (Because (batching options list trusted files)) (sym failed.1.1) (batch_stuck failed.0 failed.1.0.link.out failed.1.0 refl (later failed.2))

    -- the calls of the puts
    pub puts_calls : {A : Type 0} (faults : ℕ) (r : Result A Refusal) → OnOk r (did b (puts links texts) c)
        → IfErr r (λ why. (at : ℕ) × ((f : PutFailed (λ calls. did b calls c) links texts at) × (why ≡ WriteFault f.link.out)) × Rose faults files.faults_now) → (later : List Call) × did b later c
    puts_calls faults (Ok x) done failed = (puts links texts, done)
    puts_calls faults (Err why) done failed = (_, failed.1.0.calls)

  -- a key of what was given is one of the list that was fetched
  pub key_of_list : (options : LinkOptions) (given : List (List (Option (List ℕ)))) → AreGiven list links given (λ calls. did a calls b) → (rest : (later : List Call) × did b later c) → (key : List ℕ) → IsKeyAmong options given key
      → IsKeyOfList options list (λ calls. did a calls c) key
  key_of_list options given g rest key is = record { bytes = g.bytes; links = links; is_list = g.is; given = given; each = g.each; later = rest.0; calls = more a b c _ rest.0 g.calls rest.1; is = is }

pub given_no_put : (list : List ℕ) (links : List ListedLink) (given : List (List (Option (List ℕ)))) (did : List Call → Type 0) → AreGiven list links given did → DidNoPut did
given_no_put list links given did g = record { calls = Fetched list (Ok g.bytes) ∷ fetch_calls (all_files links) (all_given given); made = g.calls; no_put = no_put_fetches (all_files links) (all_given given) }

-- why a link isn't made is why there is no batch
pub link_stops : (options : LinkOptions) (list : List ℕ) (trusted : Type 0) (files : FilesSeen) (links : List ListedLink) (given : List (List (Option (List ℕ)))) → AreGiven list links given files.did
    → Implies (record never {
      refused = λ file line kind. FirstLink options (λ link bytes. FirstBad link.files bytes file line kind) links given;
      unlinked = λ why. FirstLink options (λ link bytes. IsUnlinkable options link.files bytes why) links given;
      memory = Unit {0};
    }) (batching options list trusted files)
link_stops options list trusted files links given g = record {
  done = λ x. absurd x;
  usage = λ x. x;
  unread = λ name x. absurd x;
  refused = λ file line kind x. inr (record { links = links; given = given; fetched = g; first = x });
  unlinked = λ why x. record { links = links; given = given; fetched = g; first = x };
  unfit = λ name x. x;
  unwritten = λ name x. absurd x;
  unreturned = λ why x. x;
  memory = λ x. given_no_put list links given files.did g;
}

-- what is put of a link by its place
pub name_at : (links : List ListedLink) (at : ℕ) (link other : ListedLink) → slice_get links at ≡ Some link → other ≡ get_or links at other → other ≡ link
name_at links at link other of_link is = is ∙ get_or_from_slice_get links at link other of_link

-- ---- the links one after another

pub zip_at : {A B : Type 0} (R : A → B → Type 0) (xs : List A) (ys : List B) (i : ℕ) (x : A) (y : B) → AllZip R xs ys → i < length xs → x ≡ get_or xs i x → y ≡ get_or ys i y → R x y
zip_at R [] ys i x y z lt x_is y_is = absurd (omega (arith, lt))
zip_at R (a ∷ xs) [] i x y z lt x_is y_is = absurd z
zip_at {A} {B} R (a ∷ xs) (b ∷ ys) zero x y z lt x_is y_is = subst (λ (v : A). R v y) (sym x_is) (subst (λ (w : B). R a w) (sym y_is) z.0)
zip_at R (a ∷ xs) (b ∷ ys) (suc i) x y z lt x_is y_is = zip_at R xs ys i x y z.1 (omega (arith, lt)) x_is y_is

pub zip_length : {A B : Type 0} (R : A → B → Type 0) (xs : List A) (ys : List B) → AllZip R xs ys → length ys ≡ length xs
zip_length R [] [] z = refl
zip_length R [] (b ∷ ys) z = absurd z
zip_length R (a ∷ xs) [] z = absurd z
zip_length R (a ∷ xs) (b ∷ ys) z = ap (λ (n : ℕ). suc n) (zip_length R xs ys z.1)

pub zip_within : {A B : Type 0} (R : A → B → Type 0) (xs : List A) (ys : List B) (i : ℕ) → AllZip R xs ys → i < length xs → i < length ys
zip_within R [] ys i z lt = absurd (omega (arith, lt))
zip_within R (a ∷ xs) [] i z lt = absurd z
zip_within R (a ∷ xs) (b ∷ ys) zero z lt = omega arith
zip_within R (a ∷ xs) (b ∷ ys) (suc i) z lt = let rest : i < length ys = zip_within R xs ys i z.1 (omega (arith, lt)) in omega (arith, rest)

-- one place more of both
pub zip_both : {A B : Type 0} (R : A → B → Type 0) (xs : List A) (ys : List B) (i : ℕ) (x : A) (y : B) → AllZip R (take i xs) (take i ys) → i < length xs → i < length ys → x ≡ get_or xs i x → y ≡ get_or ys i y → R x y → AllZip R (take (i + 1) xs) (take (i + 1) ys)
zip_both {A} {B} R xs ys i x y z lt within x_is y_is this =
    subst (λ (zs : List A). AllZip R zs (take (i + 1) ys)) (sym (take_at_read xs i x lt).1)
    (subst (λ (zs : List B). AllZip R (take i xs ++ get_or xs i x ∷ []) zs) (sym (take_at_read ys i y within).1)
    (zip_more R (take i xs) (take i ys) (get_or xs i x) (get_or ys i y) z (subst (λ (v : A). R v (get_or ys i y)) x_is (subst (λ (w : B). R x w) y_is this))))

-- one of them stops, behind others that are linked
pub first_link : (options : LinkOptions) (P : ListedLink → List (Option (List ℕ)) → Type 0) (links : List ListedLink) (given : List (List (Option (List ℕ)))) (i : ℕ) (link : ListedLink) (bytes : List (Option (List ℕ)))
    → AllZip GivenFor links given → AllZip (λ l g. IsLinkable options l.files g) (take i links) (take i given) → i < length links → link ≡ get_or links i link → bytes ≡ get_or given i bytes → P link bytes → FirstLink options P links given
first_link options P [] given i link bytes each before lt link_is bytes_is p = absurd (omega (arith, lt))
first_link options P (l ∷ links) [] i link bytes each before lt link_is bytes_is p = absurd each
first_link options P (l ∷ links) (g ∷ given) zero link bytes each before lt link_is bytes_is p =
    inl (subst (λ (k : ListedLink). P k g) link_is (subst (λ (b : List (Option (List ℕ))). P link b) bytes_is p))
first_link options P (l ∷ links) (g ∷ given) (suc i) link bytes each before lt link_is bytes_is p =
    inr (before.0, first_link options P links given i link bytes each.1 before.1 (omega (arith, lt)) link_is bytes_is p)

pub link_because : (options : LinkOptions) (links : List ListedLink) (given : List (List (Option (List ℕ)))) (i : ℕ) (link : ListedLink) (bytes : List (Option (List ℕ)))
    → AllZip GivenFor links given → AllZip (λ l g. IsLinkable options l.files g) (take i links) (take i given) → i < length links → link ≡ get_or links i link → bytes ≡ get_or given i bytes
    → Implies (record never { refused = FirstBad link.files bytes; unlinked = IsUnlinkable options link.files bytes; memory = Unit {0} }) (record never {
      refused = λ file line kind. FirstLink options (λ l g. FirstBad l.files g file line kind) links given;
      unlinked = λ why. FirstLink options (λ l g. IsUnlinkable options l.files g why) links given;
      memory = Unit {0};
    })
link_because options links given i link bytes each before lt link_is bytes_is = record {
  done = λ x. x;
  usage = λ x. x;
  unread = λ name x. x;
  refused = λ file line kind x. first_link options (λ l g. FirstBad l.files g file line kind) links given i link bytes each before lt link_is bytes_is x;
  unlinked = λ why x. first_link options (λ l g. IsUnlinkable options l.files g why) links given i link bytes each before lt link_is bytes_is x;
  unfit = λ name x. x;
  unwritten = λ name x. x;
  unreturned = λ why x. x;
  memory = λ x. x;
}
