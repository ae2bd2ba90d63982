-- What told files hold of a batch follows from its calls.
use mathlib.Core.Logic.{∥∥₁_map}
use Rattle.std.proofs.Common.{ℕ, ◌≡◌, ◌∙◌, Bool, true, false, List, [], ◌∷◌, ◌++◌, map, Option, Some, None, Ok, ap, arith, inl, inr, length, refl, subst, sym, take, if◌then◌else◌}
use Rattle.std.specs.List.{AllByRecursion, AllZip}
use Rattle.std.specs.Prelude.{IfSome}
use Rattle.std.specs.Str.{bytes_eq}
use Rattle.std.proofs.lemmas.Slice.Eq.{bytes_eq-Decides}
use Rattle.lto_fault.specs.declared.kind.RefusalKind.{RefusalKind}
use Rattle.lto_fault.specs.declared.refusal.Refusal.{Refusal}
use Rattle.lto_outside.specs.Calls.{Call, Fetched, Put}
use Rattle.lto_outside.specs.Replay.{Follows, Replays}
use Rattle.lto_outside.specs.Seen.{FilesSeen}
use Rattle.lto_outside.specs.Store.{HasPut, IsPart, SameFiles, Store}
use Rattle.lto_words.specs.declared.request.LinkOptions.{LinkOptions}
use Rattle.lto_words.specs.Fetching.{fetch_call, fetch_calls}
use Rattle.lto_words.specs.Links.{GivenFor, PutFailed, all_files, all_given, puts}
use Rattle.lto_words.specs.declared.listing.ListedLink.{ListedLink}
use Rattle.lto_words.proofs.InARow.{as_many}
use Rattle.thinlto_main.specs.Batching.{AreGiven, AreLinkable, BatchCannotWrite, DidBatch, FirstLink, IsBadList, LinkStops, ListIsBad}
use Rattle.thinlto_main.specs.BatchHolding.{BatchHeld, FirstHeld, HavePart, HavePut, HoldStop, HoldsBadList, HoldsList, put_over}
use Rattle.thinlto_main.specs.Holding.{HoldLinkable, HoldMade, HoldUnlinkable}
use Rattle.thinlto_main.specs.Linking.{IsLinkable, IsMade, IsMadeIf, IsUnlinkable}
use Rattle.thinlto_main.specs.Modules.{bytes_of}
use Rattle.thinlto_main.proofs.Held.{Gives, fetches_then, held_inputs}
use Rattle.thinlto_main.proofs.Linking.{accepted_bytes}

-- ---- puts

-- the file of one put
put_here : (old next : Store) (out text name : List ℕ) → HasPut old next out text → next name ≡ (if bytes_eq out name then Some text else old name)
put_here old next out text name put = by (bytes_eq out name) refl
  where
    by : (b : Bool) → bytes_eq out name ≡ b → next name ≡ (if b then Some text else old name)
    by true e = ap next (sym ((bytes_eq-Decides out name).0 e)) ∙ put.written
    by false e = put.others name (λ same. let yes : bytes_eq out name ≡ true = (bytes_eq-Decides out name).1 (sym same) in let never : true ≡ false = sym yes ∙ e in cc never)

-- puts in front of other calls
record PutThen (old new : Store) (links : List ListedLink) (texts : List (List ℕ)) (rest : List Call) : Type 0 where
  next : Store
  put : HavePut old next links texts
  behind : Replays next rest new

puts_then : (old new : Store) (links : List ListedLink) (texts : List (List ℕ)) (rest : List Call) → Replays old (puts links texts ++ rest) new → PutThen old new links texts rest
puts_then old new [] texts rest r = record { next = old; put = λ name. refl; behind = r }
puts_then old new (link ∷ links) [] rest r = record { next = old; put = λ name. refl; behind = r }
puts_then old new (link ∷ links) (text ∷ texts) rest r =
    let more = puts_then r.0 new links texts rest r.2 in
    record { next = more.next; put = λ name. more.put name ∙ ap (put_over links texts name) (put_here old r.0 link.out text name r.1); behind = more.behind }

no_more : (cs : List Call) → cs ++ [] ≡ cs
no_more [] = refl
no_more (c ∷ cs) = ap (λ (l : List Call). c ∷ l) (no_more cs)

all_put : (old new : Store) (links : List ListedLink) (texts : List (List ℕ)) → Replays old (puts links texts) new → HavePut old new links texts
all_put old new links texts r =
    let p = puts_then old new links texts [] (subst (λ (cs : List Call). Replays old cs new) (sym (no_more (puts links texts))) r) in
    λ name. p.behind name ∙ p.put name

part_of : (old next new : Store) (out text : List ℕ) → IsPart old next out text → SameFiles next new → IsPart old new out text
part_of old next new out text (inl is) same = inl (same out ∙ is)
part_of old next new out text (inr (count, is)) same = inr (count, same out ∙ is)

some_put : (old new : Store) (links : List ListedLink) (texts : List (List ℕ)) (at : ℕ) (name : List ℕ) (f : PutFailed (λ calls. Replays old calls new) links texts at) → name ≡ f.link.out → HavePart name old new links texts
some_put old new links texts at name f named =
    let p = puts_then old new (take at links) (take at texts) (Put f.link.out f.text false ∷ []) f.calls in
    record {
      at = at;
      link = f.link;
      text = f.text;
      of_link = f.of_link;
      of_text = f.of_text;
      named = named;
      next = p.next;
      before = p.put;
      part = record {
        part = part_of p.next p.behind.0 new f.link.out f.text p.behind.1.part p.behind.2;
        others = λ other differs. p.behind.2 other ∙ p.behind.1.others other differs;
      };
    }

-- ---- fetches

zip_split : {A B : Type 0} (R : A → B → Type 0) (xs more : List A) (ys rest : List B) → length ys ≡ length xs → AllZip R (xs ++ more) (ys ++ rest) → AllZip R xs ys × AllZip R more rest
zip_split R [] more [] rest e z = (tt, z)
zip_split R [] more (y ∷ ys) rest e z = absurd (omega (arith, e))
zip_split R (x ∷ xs) more [] rest e z = absurd (omega (arith, e))
zip_split R (x ∷ xs) more (y ∷ ys) rest e z = let both = zip_split R xs more ys rest (omega (arith, e)) z.1 in ((z.0, both.0), both.1)

-- each link's files hold what they gave
abbrev GivesFor : Store → ListedLink → List (Option (List ℕ)) → Type 0
GivesFor held link given = AllZip (Gives held) link.files given

by_link : (held : Store) (links : List ListedLink) (given : List (List (Option (List ℕ)))) → AllZip GivenFor links given → AllZip (Gives held) (all_files links) (all_given given) → AllZip (GivesFor held) links given
by_link held [] [] each gives = tt
by_link held [] (g ∷ given) each gives = absurd each
by_link held (link ∷ links) [] each gives = absurd each
by_link held (link ∷ links) (g ∷ given) each gives =
    let both = zip_split (Gives held) link.files (all_files links) g (all_given given) each.0.each gives in
    (both.0, by_link held links given each.1 both.1)

-- ---- links

module _ (held : Store) (options : LinkOptions) where
  pub hold_linkable : (names : List (List ℕ)) (given : List (Option (List ℕ))) → AllZip (Gives held) names given → IsLinkable options names given → HoldLinkable options names held
  hold_linkable names given gives l = record {
    inputs = map bytes_of given;
    ms = l.ms;
    modules = record { there = held_inputs held names given l.ms gives l.read; accepted = accepted_bytes given l.ms l.read };
    linked = l.linked;
  }

  pub hold_unlinkable : (names : List (List ℕ)) (given : List (Option (List ℕ))) (why : Refusal) → AllZip (Gives held) names given → IsUnlinkable options names given why → HoldUnlinkable options names held why
  hold_unlinkable names given why gives u = record {
    inputs = map bytes_of given;
    ms = u.ms;
    modules = record { there = held_inputs held names given u.ms gives u.read; accepted = accepted_bytes given u.ms u.read };
    unlinked = u.unlinked;
  }

  pub hold_made : (names : List (List ℕ)) (given : List (Option (List ℕ))) (text : List ℕ) → AllZip (Gives held) names given → IsMade options given text → HoldMade options names held text
  hold_made names given text gives m = record { inputs = map bytes_of given; there = held_inputs held names given m.is_link.ms gives m.read; is_link = m.is_link; only = m.only }

  pub hold_if_made : (trusted : Type 0) (names : List (List ℕ)) (given : List (Option (List ℕ))) (text : List ℕ) → AllZip (Gives held) names given → IsMadeIf trusted options given text → trusted → ∥ HoldMade options names held text ∥₁
  hold_if_made trusted names given text gives made sure = ∥∥₁_map (made sure) (hold_made names given text gives)

  all_made : (trusted : Type 0) (links : List ListedLink) (given : List (List (Option (List ℕ)))) (texts : List (List ℕ)) → AllZip (GivesFor held) links given → AllZip (IsMadeIf trusted options) given texts
      → AllZip (λ link text. trusted → ∥ HoldMade options link.files held text ∥₁) links texts
  all_made trusted [] [] [] gives made = tt
  all_made trusted [] [] (t ∷ texts) gives made = absurd made
  all_made trusted [] (g ∷ given) texts gives made = absurd gives
  all_made trusted (link ∷ links) [] texts gives made = absurd gives
  all_made trusted (link ∷ links) (g ∷ given) [] gives made = absurd made
  all_made trusted (link ∷ links) (g ∷ given) (t ∷ texts) gives made = (hold_if_made trusted link.files g t gives.0 made.0, all_made trusted links given texts gives.1 made.1)

  all_linkable : (links : List ListedLink) (given : List (List (Option (List ℕ)))) → AllZip (GivesFor held) links given → AreLinkable options links given → AllByRecursion (λ link. HoldLinkable options link.files held) links
  all_linkable [] given gives linkable = tt
  all_linkable (link ∷ links) [] gives linkable = absurd gives
  all_linkable (link ∷ links) (g ∷ given) gives linkable = (hold_linkable link.files g gives.0 linkable.0, all_linkable links given gives.1 linkable.1)

  first_held : (P : ListedLink → List (Option (List ℕ)) → Type 0) (Q : ListedLink → Type 0) → ((link : ListedLink) (g : List (Option (List ℕ))) → AllZip (Gives held) link.files g → P link g → Q link)
      → (links : List ListedLink) (given : List (List (Option (List ℕ)))) → AllZip (GivesFor held) links given → FirstLink options P links given → FirstHeld options held Q links
  first_held P Q f [] given gives first = first
  first_held P Q f (link ∷ links) [] gives first = absurd first
  first_held P Q f (link ∷ links) (g ∷ given) gives (inl p) = inl (f link g gives.0 p)
  first_held P Q f (link ∷ links) (g ∷ given) gives (inr (good, first)) = inr (hold_linkable link.files g gives.0 good, first_held P Q f links given gives.1 first)

-- ---- a batch

record GivenThen (list : List ℕ) (links : List ListedLink) (given : List (List (Option (List ℕ)))) (old new : Store) (rest : List Call) : Type 0 where
  listed : HoldsList old list links
  gives : AllZip (GivesFor old) links given
  behind : Replays old rest new

given_then : (list : List ℕ) (links : List ListedLink) (given : List (List (Option (List ℕ)))) (old new : Store) (rest : List Call) → AreGiven list links given (λ calls. Replays old (calls ++ rest) new) → GivenThen list links given old new rest
given_then list links given old new rest g =
    let both = fetches_then old new (all_files links) (all_given given) rest (as_many links given g.each) g.calls.1 in
    record {
      listed = record { bytes = g.bytes; there = (g.calls.0, g.short); is = g.is };
      gives = by_link old links given g.each both.0;
      behind = both.1;
    }

module _ (options : LinkOptions) (list : List ℕ) (trusted : Type 0) (files : FilesSeen) (tells : (calls : List Call) → files.did calls → Follows files.held calls files.holds) where
  batch_told : (d : DidBatch options list trusted files) (old new : Option Store) → ((calls : List Call) → files.did calls → Follows old calls new) → BatchHeld HavePut options list trusted old new
  batch_told d None new follows = tt
  batch_told d (Some old) None follows = follows _ d.fetched.calls
  batch_told d (Some old) (Some new) follows =
      let t = given_then list d.links d.given old new (puts d.links d.texts) (record { bytes = d.fetched.bytes; short = d.fetched.short; is = d.fetched.is; each = d.fetched.each; calls = follows _ d.fetched.calls }) in
      record {
        links = d.links;
        listed = t.listed;
        each = all_linkable old options d.links d.given t.gives d.linkable;
        texts = d.texts;
        made = all_made old options trusted d.links d.given d.texts t.gives d.made;
        put_there = all_put old new d.links d.texts t.behind;
      }

  stuck_told : (name : List ℕ) (d : BatchCannotWrite options list trusted files name) (old new : Option Store) → ((calls : List Call) → files.did calls → Follows old calls new) → BatchHeld (HavePart name) options list trusted old new
  stuck_told name d None new follows = tt
  stuck_told name d (Some old) None follows = follows _ d.fetched.calls.calls
  stuck_told name d (Some old) (Some new) follows =
      let f = d.fetched.calls in
      let rest = puts (take d.at d.links) (take d.at d.texts) ++ Put f.link.out f.text false ∷ [] in
      let t = given_then list d.links d.given old new rest (record { bytes = d.fetched.bytes; short = d.fetched.short; is = d.fetched.is; each = d.fetched.each; calls = follows _ f.calls }) in
      record {
        links = d.links;
        listed = t.listed;
        each = all_linkable old options d.links d.given t.gives d.linkable;
        texts = d.texts;
        made = all_made old options trusted d.links d.given d.texts t.gives d.made;
        put_there = some_put old new d.links d.texts d.at name (record { link = f.link; text = f.text; of_link = f.of_link; of_text = f.of_text; calls = t.behind }) d.named;
      }

  pub done_told : DidBatch options list trusted files → BatchHeld HavePut options list trusted files.held files.holds
  done_told d = batch_told d files.held files.holds tells

  pub part_told : (name : List ℕ) → BatchCannotWrite options list trusted files name → BatchHeld (HavePart name) options list trusted files.held files.holds
  part_told name d = stuck_told name d files.held files.holds tells

-- ---- why there is none

module _ (options : LinkOptions) (list : List ℕ) (files : FilesSeen) (tells : (calls : List Call) → files.did calls → Follows files.held calls files.holds) where
  bad_list : (file : List ℕ) (line : ℕ) (kind : RefusalKind) (b : ListIsBad list files file line kind) (given : Option (List ℕ)) → b.given ≡ given → (old new : Option Store) → ((calls : List Call) → files.did calls → Follows old calls new)
      → IfSome old (λ held. HoldsBadList held list line kind)
  bad_list file line kind b given is None new follows = tt
  bad_list file line kind b given is (Some old) None follows = absurd (follows _ b.calls)
  bad_list file line kind b None is (Some old) (Some new) follows =
      let r = subst (λ (g : Option (List ℕ)). Replays old (fetch_call list g ∷ []) new) is (follows _ b.calls) in
      let bad = subst (λ (g : Option (List ℕ)). IsBadList g line kind) is b.bad in
      record { bytes = r.0.0; here = r.0.1; fault = inl (r.0.2, bad.0, bad.1) }
  bad_list file line kind b (Some bytes) is (Some old) (Some new) follows =
      let r = subst (λ (g : Option (List ℕ)). Replays old (fetch_call list g ∷ []) new) is (follows _ b.calls) in
      record { bytes = bytes; here = r.0; fault = inr (subst (λ (g : Option (List ℕ)). IsBadList g line kind) is b.bad) }

  pub bad_list_told : (file : List ℕ) (line : ℕ) (kind : RefusalKind) → ListIsBad list files file line kind → IfSome files.held (λ held. HoldsBadList held list line kind)
  bad_list_told file line kind b = bad_list file line kind b b.given refl files.held files.holds tells

  stops : (P : ListedLink → List (Option (List ℕ)) → Type 0) (Q : Store → ListedLink → Type 0) → ((held : Store) (link : ListedLink) (g : List (Option (List ℕ))) → AllZip (Gives held) link.files g → P link g → Q held link)
      → LinkStops options list files P → (old new : Option Store) → ((calls : List Call) → files.did calls → Follows old calls new) → IfSome old (λ held. HoldStop options list held (Q held))
  stops P Q f s None new follows = tt
  stops P Q f s (Some old) None follows = absurd (follows _ s.fetched.calls)
  stops P Q f s (Some old) (Some new) follows =
      let r = follows _ s.fetched.calls in
      let t = given_then list s.links s.given old new [] (record { bytes = s.fetched.bytes; short = s.fetched.short; is = s.fetched.is; each = s.fetched.each; calls = subst (λ (cs : List Call). Replays old cs new) (sym (no_more (Fetched list (Ok s.fetched.bytes) ∷ fetch_calls (all_files s.links) (all_given s.given)))) r }) in
      record { links = s.links; listed = t.listed; first = first_held old options P (Q old) (f old) s.links s.given t.gives s.first }

  pub stop_told : (P : ListedLink → List (Option (List ℕ)) → Type 0) (Q : Store → ListedLink → Type 0) → ((held : Store) (link : ListedLink) (g : List (Option (List ℕ))) → AllZip (Gives held) link.files g → P link g → Q held link)
      → LinkStops options list files P → IfSome files.held (λ held. HoldStop options list held (Q held))
  stop_told P Q f s = stops P Q f s files.held files.holds tells
