-- What is marked is kept, and nothing else.
use Rattle.std.proofs.Common.{◌≡◌, ◌∙◌, ◌⊎◌, ◌↔◌, inl, inr, ◌<◌, ◌+◌, ◌≤◌, ◌||◌, ◌&&◌, ℕ, zero, suc, Bool, true, false, cond, List, [], ◌∷◌, ◌++◌, length, drop, get_or, Some, Bor, refl, sym, ap, ap₂, subst, arith}
use Rattle.std.proofs.lemmas.Bool.{and_from, and_parts, false≢true, or_cases, or_left, or_right}
use Rattle.std.proofs.lemmas.Cmp.{nat_list_eq_equiv}
use Rattle.std.proofs.lemmas.List.{drop_all, drop_more}
use Rattle.std.proofs.lemmas.List.Elements.{All-from_get_or, Contains-get_or}
use Rattle.std.proofs.lemmas.Slice.Eq.{bytes_eq-Decides}
use Rattle.std.specs.HashSet.{HashSet, Updates}
use Rattle.std.specs.List.{All, Contains, list_any}
use Rattle.std.specs.Str.{bytes_eq}
use Rattle.indexmap.specs.IndexSet.{insert_key}
use Rattle.lto_sets.specs.Sets.{contains}
use Rattle.combined_index.specs.Reach.{IsReached, leads, starts}
use Rattle.combined_index.specs.Rows.{AreBelow, row}
use Rattle.combined_index.specs.Walking.{IsReach}
use Rattle.lto_task.specs.declared.piece.Piece.{Piece}
use Rattle.merge_meaning.specs.ByName.{has}
use Rattle.merge_meaning.proofs.Standing.{alone, in_joined, joined_from}
use Rattle.emit.specs.Graphs.{AreStarts, Edge, IsNumber, Linked, edge, edges, edges_of, is_key, is_marked}
use Rattle.emit.specs.Joins.{IsUsed, asked, referred_by}
use Rattle.emit.proofs.Linking.{alike, number_within}

abbrev Keys : Type 0
Keys = List (Bor (List ℕ))

inside : {X : Type 0} {x y : X} → Some x ≡ Some y → x ≡ y
inside e = cc

-- ---- references of pieces

from_edges : (hs : List Piece) (from to : List ℕ) → Contains (edges hs) (from, to) → (p : Piece) × Contains hs p × (p.name ≡ from) × Contains p.refs to
from_edges hs from to h =
    let p = joined_from edges_of hs (from, to) h in
    let r = joined_from (edge p.0.name) p.0.refs (from, to) p.2 in
    let same : ◌≡◌ {A = Edge} (p.0.name, r.0) (from, to) = alone (p.0.name, r.0) (from, to) r.2 in
    (p.0, p.1, ap (λ (e : Edge). e.0) same, subst (Contains p.0.refs) (ap (λ (e : Edge). e.1) same) r.1)

to_edges : (hs : List Piece) (p : Piece) (to : List ℕ) → Contains hs p → Contains p.refs to → Contains (edges hs) (p.name, to)
to_edges hs p to there refers = in_joined edges_of hs p (p.name, to) there (in_joined (edge p.name) p.refs to (p.name, to) refers (0, omega arith, refl))

-- ---- marks

pub marked_is : (keys : Keys) (marks : List Bool) (name : List ℕ) → is_marked keys marks name ≡ true → (n : ℕ) × IsNumber keys name n × (contains marks n ≡ true)
marked_is [] marks name h = absurd (false≢true h)
marked_is (key ∷ keys) [] name h = absurd (false≢true h)
marked_is (key ∷ keys) (mark ∷ marks) name h = by (or_cases (mark && bytes_eq name key.now) (is_marked keys marks name) h) (λ rest. marked_is keys marks name rest)
  where
    by : ((mark && bytes_eq name key.now) ≡ true) ⊎ (is_marked keys marks name ≡ true) → (is_marked keys marks name ≡ true → (n : ℕ) × IsNumber keys name n × (contains marks n ≡ true))
        → (n : ℕ) × IsNumber (key ∷ keys) name n × (contains (mark ∷ marks) n ≡ true)
    by (inl here) later =
        let parts = and_parts mark (bytes_eq name key.now) here in
        (0, ap (λ (x : List ℕ). Some x) (sym ((bytes_eq-Decides name key.now).0 parts.1)), parts.0)
    by (inr rest) later = let found = later rest in (suc found.0, found.1, found.2)

pub is_marked_so : (keys : Keys) (marks : List Bool) (name : List ℕ) (n : ℕ) → IsNumber keys name n → contains marks n ≡ true → is_marked keys marks name ≡ true
is_marked_so [] marks name n at on = absurd (cc at)
is_marked_so (key ∷ keys) [] name n at on = absurd (false≢true on)
is_marked_so (key ∷ keys) (mark ∷ marks) name zero at on =
    let same : key.now ≡ name = inside at in
    or_left (mark && bytes_eq name key.now) (is_marked keys marks name) (and_from mark (bytes_eq name key.now) on ((bytes_eq-Decides name key.now).1 (sym same)))
is_marked_so (key ∷ keys) (mark ∷ marks) name (suc n) at on = or_right (mark && bytes_eq name key.now) (is_marked keys marks name) (is_marked_so keys marks name n at on)

-- ---- what is kept

module _ (exports : List (List ℕ)) (hs : List Piece) (keys : Keys) (rows : List (List ℕ)) (begun : List ℕ) (l : Linked (edges hs) keys rows) (s : AreStarts keys exports begun) where
  one_name : (n : ℕ) (a b : List ℕ) → IsNumber keys a n → IsNumber keys b n → a ≡ b
  one_name n a b at_a at_b = inside (sym at_a ∙ at_b)

  kept_of : (n : ℕ) → IsReached (Contains begun) (row rows) n → (a : List ℕ) → IsNumber keys a n → IsUsed exports hs a
  kept_of n (starts _ h) a at =
      let from = s.sound n h in
      subst (IsUsed exports hs) (one_name n from.0 a from.2 at) (asked from.0 from.1)
  kept_of n (leads m _ r h) a at =
      let e = l.sound m n h in
      let p = from_edges hs e.0 e.1 e.4 in
      subst (IsUsed exports hs) (one_name n e.1 a e.3 at)
      (referred_by p.0 e.1 p.1 (subst (IsUsed exports hs) (sym p.2) (kept_of m r e.0 e.2)) p.3)

  reached_of : (a : List ℕ) → IsUsed exports hs a → (n : ℕ) × IsNumber keys a n × IsReached (Contains begun) (row rows) n
  reached_of a (asked _ h) = let at = s.complete a h in (at.0, at.2, starts at.0 at.1)
  reached_of a (referred_by p _ there r h) =
      let from = reached_of p.name r in
      let e = l.complete p.name a (to_edges hs p a there h) in
      let same : from.0 ≡ e.0 = l.once from.0 e.0 p.name from.1 e.2 in
      (e.1, e.3, leads e.0 e.1 (subst (IsReached (Contains begun) (row rows)) same from.2) e.4)

  pub kept_so : (marks : List Bool) → IsReach (Contains begun) (row rows) marks → (name : List ℕ) → (is_marked keys marks name ≡ true) ↔ IsUsed exports hs name
  kept_so marks reach name = (
    λ h. let at = marked_is keys marks name h in kept_of at.0 ((reach at.0).0 at.2) name at.1,
    λ k. let at = reached_of name k in is_marked_so keys marks name at.0 at.1 ((reach at.0).1 at.2),
  )

  -- rows and starts lead to numbers of names
  pub rows_below : AreBelow (length rows) rows
  rows_below = All-from_get_or (λ r. All (λ n. n < length rows) r) rows [] (λ n lt. All-from_get_or (λ m. m < length rows) (row rows n) 0 (λ k inside.
      let e = l.sound n (get_or (row rows n) k 0) (Contains-get_or (row rows n) k 0 inside) in
      let within : get_or (row rows n) k 0 < length keys = number_within keys e.1 (get_or (row rows n) k 0) e.3 in
      omega (arith, within, l.long)))

  pub starts_below : All (λ n. n < length rows) begun
  starts_below = All-from_get_or (λ n. n < length rows) begun 0 (λ k inside.
      let e = s.sound (get_or begun k 0) (Contains-get_or begun k 0 inside) in
      let within : get_or begun k 0 < length keys = number_within keys e.0 (get_or begun k 0) e.2 in
      omega (arith, within, l.long))

-- ---- the keys of the names that are marked

or_false : (b : Bool) → (b || false) ≡ b
or_false true = refl
or_false false = refl

or_grouped : (a b c : Bool) → ((a || b) || c) ≡ (a || (b || c))
or_grouped true b c = refl
or_grouped false b c = refl

key_behind : (ks : Keys) (k : Bor (List ℕ)) (name : List ℕ) → is_key (ks ++ k ∷ []) name ≡ (is_key ks name || bytes_eq name k.now)
key_behind [] k name = or_false (bytes_eq name k.now)
key_behind (x ∷ xs) k name = ap (λ (b : Bool). bytes_eq name x.now || b) (key_behind xs k name) ∙ sym (or_grouped (bytes_eq name x.now) (is_key xs name) (bytes_eq name k.now))

-- a key that is there already is found under its name
key_there : (ks : Keys) (k : Bor (List ℕ)) (name : List ℕ) → list_any (alike k) ks ≡ true → is_key ks name ≡ (is_key ks name || bytes_eq name k.now)
key_there ks k name h = by (bytes_eq name k.now) refl
  where
    found : (ks : Keys) → bytes_eq name k.now ≡ true → is_key ks name ≡ list_any (alike k) ks
    found [] e = refl
    found (x ∷ xs) e = ap₂ (λ (a b : Bool). a || b) (nat_list_eq_equiv.congr name k.now x.now e) (found xs e)

    by : (b : Bool) → bytes_eq name k.now ≡ b → is_key ks name ≡ (is_key ks name || bytes_eq name k.now)
    by true e = found ks e ∙ h ∙ sym (ap₂ (λ (a b : Bool). a || b) (found ks e ∙ h) e)
    by false e = sym (or_false (is_key ks name)) ∙ sym (ap (λ (b : Bool). is_key ks name || b) e)

key_more : (ks : Keys) (k : Bor (List ℕ)) (name : List ℕ) → is_key (insert_key alike ks k) name ≡ (is_key ks name || bytes_eq name k.now)
key_more ks k name = by (list_any (alike k) ks) refl
  where
    by : (b : Bool) → list_any (alike k) ks ≡ b → is_key (insert_key alike ks k) name ≡ (is_key ks name || bytes_eq name k.now)
    by true h = ap (λ (b : Bool). is_key (cond b ks (ks ++ k ∷ [])) name) h ∙ key_there ks k name h
    by false h = ap (λ (b : Bool). is_key (cond b ks (ks ++ k ∷ [])) name) h ∙ key_behind ks k name

-- the names so far, with those that are left
abbrev pub KeysSoFar : Keys → List Bool → ℕ → Keys → Type 0
KeysSoFar names marks i kept = (name : List ℕ) → (is_key kept name || is_marked (drop i names) (drop i marks) name) ≡ is_marked names marks name

module _ (names : Keys) (marks : List Bool) (i : ℕ) (d : Bor (List ℕ)) (lt : i < length names) (inside : i < length marks) (kept : Keys) (so_far : KeysSoFar names marks i kept) where
  abbrev left : List ℕ → Bool
  left name = is_marked (drop (i + 1) names) (drop (i + 1) marks) name

  at : (name : List ℕ) → (is_key kept name || ((get_or marks i false && bytes_eq name (get_or names i d).now) || left name)) ≡ is_marked names marks name
  at name =
      ap (λ (b : Bool). is_key kept name || b) (sym (ap₂ (λ (ks : Keys). λ (bs : List Bool). is_marked ks bs name) (drop_more names i d lt) (drop_more marks i false inside)))
      ∙ so_far name

  -- a name that is marked
  pub marked_more : (then : Keys) (k : Bor (List ℕ)) → k ≡ get_or names i d → contains marks i ≡ true → then ≡ insert_key alike kept k → KeysSoFar names marks (i + 1) then
  marked_more then k is on then_is name =
      ap (λ (ks : Keys). is_key ks name || left name) then_is
      ∙ ap (λ (b : Bool). b || left name) (key_more kept k name ∙ ap (λ (key : Bor (List ℕ)). is_key kept name || bytes_eq name key.now) is)
      ∙ or_grouped (is_key kept name) (bytes_eq name (get_or names i d).now) (left name)
      ∙ sym (ap (λ (b : Bool). is_key kept name || ((b && bytes_eq name (get_or names i d).now) || left name)) on)
      ∙ at name

  -- and one that isn't
  pub marked_same : contains marks i ≡ false → KeysSoFar names marks (i + 1) kept
  marked_same off name = sym (ap (λ (b : Bool). is_key kept name || ((b && bytes_eq name (get_or names i d).now) || left name)) off) ∙ at name

pub marked_done : (names : Keys) (marks : List Bool) (i : ℕ) (kept : Keys) → length names ≤ i → KeysSoFar names marks i kept → (name : List ℕ) → is_key kept name ≡ is_marked names marks name
marked_done names marks i kept past so_far name =
    sym (or_false (is_key kept name)) ∙ sym (ap (λ (ks : Keys). is_key kept name || is_marked ks (drop i marks) name) (drop_all i names past)) ∙ so_far name

-- ---- a list of names as a set, one name further

-- a borrow of this name
abbrev borrowed : List ℕ → Bor (List ℕ)
borrowed name = record { ref_ptr = (0, 0); now = name }

named : (b c rest : Bool) → (cond b true c || rest) ≡ (c || (b || rest))
named true true rest = refl
named true false rest = refl
named false c rest = refl

pub has_more : {S : Type 0} (old new : HashSet (Bor (List ℕ)) S) (k : Bor (List ℕ)) (names : List (List ℕ)) (i : ℕ) (d : List ℕ) → i < length names → k.now ≡ get_or names i d
    → Updates alike old new k true → (name : List ℕ) → (has old name || list_any (bytes_eq name) (drop i names)) ≡ list_any (bytes_eq name) names
    → (has new name || list_any (bytes_eq name) (drop (i + 1) names)) ≡ list_any (bytes_eq name) names
has_more old new k names i d lt is updates name so_far =
    ap (λ (b : Bool). b || list_any (bytes_eq name) (drop (i + 1) names)) (updates.0 (borrowed name))
    ∙ named (bytes_eq k.now name) (has old name) (list_any (bytes_eq name) (drop (i + 1) names))
    ∙ ap (λ (b : Bool). has old name || (b || list_any (bytes_eq name) (drop (i + 1) names))) (nat_list_eq_equiv.symm k.now name ∙ ap (bytes_eq name) is)
    ∙ sym (ap (λ (ns : List (List ℕ)). has old name || list_any (bytes_eq name) ns) (drop_more names i d lt))
    ∙ so_far
