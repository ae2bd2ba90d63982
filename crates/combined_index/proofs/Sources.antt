-- The modules that refer to a symbol, and the first of them.
use Rattle.std.proofs.Common.{◌≡◌, ◌∙◌, ◌⊎◌, inl, inr, ◌&&◌, ◌||◌, ℕ, zero, suc, ◌+◌, ◌<◌, ◌≤◌, Bool, true, false, cond, nat_eq, List, [], ◌∷◌, Option, Some, None, refl, sym, ap, subst, arith, slice_get, get_or}
use Rattle.std.proofs.lemmas.Bool.{eq-eqb, eqb-true, false≢true}
use Rattle.std.proofs.lemmas.List.Elements.{Contains-append_cases, Contains-append_left, Contains-append_right, Contains-push}
use Rattle.std.specs.List.{Contains, find, flat_map, list_any, position_from}
use Rattle.lto_sets.specs.Sets.{contains}
use Rattle.combined_index.specs.Combined.{Combined, definitions, prevailing_of, prevails_for}
use Rattle.combined_index.specs.declared.definition.Definition.{Definition}
use Rattle.combined_index.specs.Liveness.{AreLive, IsFirstModule, IsLacking, RefersFrom, refs, refs_of}
use Rattle.combined_index.specs.LiveMarks.{AreReferred, any_refers, refers}
use Rattle.combined_index.proofs.Lacking.{both_are, both_true, lacking_is}
use Rattle.combined_index.proofs.Starting.{some_same}

none_some : {X : Type 0} {x : X} → None ≡ Some x → ⊥
none_some h = cc

-- ---- tests of lists

contains_first : {X : Type 0} (x : X) (xs : List X) → Contains (x ∷ xs) x
contains_first x xs = Contains-append_left (x ∷ []) xs x (Contains-push [] x)

contains_later : {X : Type 0} (x y : X) (xs : List X) → Contains xs y → Contains (x ∷ xs) y
contains_later x y xs h = Contains-append_right (x ∷ []) xs y h

pub any_one : {X : Type 0} (t : X → Bool) (xs : List X) → list_any t xs ≡ true → (x : X) × Contains xs x × (t x ≡ true)
any_one t [] h = absurd (false≢true h)
any_one {X} t (x ∷ xs) h = by (t x) refl h (λ rest. any_one t xs rest)
  where
    by : (b : Bool) → t x ≡ b → b || list_any t xs ≡ true → (list_any t xs ≡ true → (y : X) × Contains xs y × (t y ≡ true)) → (y : X) × Contains (x ∷ xs) y × (t y ≡ true)
    by true is e ih = (x, contains_first x xs, is)
    by false is e ih = let more = ih e in (more.0, contains_later x more.0 xs more.1, more.2)

one_any : {X : Type 0} (t : X → Bool) (xs : List X) (x : X) → Contains xs x → t x ≡ true → list_any t xs ≡ true
one_any t [] x h is = let k : h.0 < 0 = h.1 in absurd (omega (arith, k))
one_any {X} t (y ∷ xs) x h is = by (t y) refl (Contains-append_cases (y ∷ []) xs x h) (λ later. one_any t xs x later is)
  where
    same : Contains (y ∷ []) x → y ≡ x
    same e = elim (Contains-append_cases (y ∷ []) [] x e) [ inl k ↦ only k | inr k ↦ (let l : k.0 < 0 = k.1 in absurd (omega (arith, l))) ]
      where
        only : Contains (y ∷ []) x → y ≡ x
        only k = one_alone k.0 k.1 k.2
          where
            one_alone : (i : ℕ) → i < 1 → get_or (y ∷ []) i x ≡ x → y ≡ x
            one_alone zero l e = e
            one_alone (suc i) l e = absurd (omega (arith, l))

    by : (b : Bool) → t y ≡ b → Contains (y ∷ []) x ⊎ Contains xs x → (Contains xs x → list_any t xs ≡ true) → b || list_any t xs ≡ true
    by true e c ih = refl
    by false e (inl k) ih = absurd (false≢true (sym e ∙ ap t (same k) ∙ is))
    by false e (inr k) ih = ih k

-- the place that is found is the first at which the test holds
abbrev pub IsFirst : {X : Type 0} → (X → Bool) → List X → ℕ → Type 0
IsFirst {X} t xs j = (x : X) × (slice_get xs j ≡ Some x) × (t x ≡ true) × ((k : ℕ) (y : X) → slice_get xs k ≡ Some y → t y ≡ true → j ≤ k)

pub first_at : {X : Type 0} (t : X → Bool) (i : ℕ) (xs : List X) (n : ℕ) → position_from t i xs ≡ Some n → (j : ℕ) × (n ≡ i + j) × IsFirst t xs j
first_at t i [] n h = absurd (none_some h)
first_at {X} t i (x ∷ xs) n h = by (t x) refl h (λ rest. first_at t (i + 1) xs n rest)
  where
    later : (j : ℕ) → t x ≡ false → ((k : ℕ) (y : X) → slice_get xs k ≡ Some y → t y ≡ true → j ≤ k) → (k : ℕ) (y : X) → slice_get (x ∷ xs) k ≡ Some y → t y ≡ true → suc j ≤ k
    later j not first zero y is holds = absurd (false≢true (sym not ∙ ap t (some_same is) ∙ holds))
    later j not first (suc k) y is holds = let l : j ≤ k = first k y is holds in omega (arith, l)

    by : (b : Bool) → t x ≡ b → cond b (Some i) (position_from t (i + 1) xs) ≡ Some n
        → (position_from t (i + 1) xs ≡ Some n → (j : ℕ) × (n ≡ (i + 1) + j) × IsFirst t xs j) → (j : ℕ) × (n ≡ i + j) × IsFirst t (x ∷ xs) j
    by true is e ih = let same : i ≡ n = some_same e in (0, omega (arith, same), (x, refl, is, λ k y g holds. omega arith))
    by false is e ih =
        let more = ih e in
        let j : ℕ = more.0 in
        let far : n ≡ (i + 1) + more.0 = more.1 in
        (suc more.0, omega (arith, far), (more.2.0, more.2.1, more.2.2, later more.0 is more.2.3))

-- ---- where a definition stands

pub find_one : {X : Type 0} (t : X → Bool) (xs : List X) (x : X) → find t xs ≡ Some x → Contains xs x × (t x ≡ true)
find_one t [] x h = absurd (none_some h)
find_one {X} t (y ∷ ys) x h = by (t y) refl h (λ rest. find_one t ys x rest)
  where
    by : (b : Bool) → t y ≡ b → cond b (Some y) (find t ys) ≡ Some x → (find t ys ≡ Some x → Contains ys x × (t x ≡ true)) → Contains (y ∷ ys) x × (t x ≡ true)
    by true is e ih = let same : y ≡ x = some_same e in (subst (Contains (y ∷ ys)) same (contains_first y ys), ap t (sym same) ∙ is)
    by false is e ih = let more = ih e in (contains_later y x ys more.0, more.1)

pub joined : {X : Type 0} (xss : List (List X)) (x : X) → Contains (flat_map (λ m. m) xss) x → (k : ℕ) × (xs : List X) × (slice_get xss k ≡ Some xs) × Contains xs x
joined [] x h = let k : h.0 < 0 = h.1 in absurd (omega (arith, k))
joined {X} (xs ∷ xss) x h = by (Contains-append_cases xs (flat_map (λ m. m) xss) x h) (λ rest. joined xss x rest)
  where
    by : Contains xs x ⊎ Contains (flat_map (λ m. m) xss) x → (Contains (flat_map (λ m. m) xss) x → (k : ℕ) × (ys : List X) × (slice_get xss k ≡ Some ys) × Contains ys x)
        → (k : ℕ) × (ys : List X) × (slice_get (xs ∷ xss) k ≡ Some ys) × Contains ys x
    by (inl here) ih = (0, xs, refl, here)
    by (inr later) ih = let more = ih later in (suc more.0, more.1, more.2, more.3)

position_there : {X : Type 0} (t : X → Bool) (i : ℕ) (xs : List X) (k : ℕ) (x : X) → slice_get xs k ≡ Some x → t x ≡ true → position_from t i xs ≡ None → ⊥
position_there t i [] k x there holds none = none_some there
position_there {X} t i (y ∷ ys) k x there holds none = by (t y) refl none k there (λ j more rest. position_there t (i + 1) ys j x more holds rest)
  where
    by : (b : Bool) → t y ≡ b → cond b (Some i) (position_from t (i + 1) ys) ≡ None → (k : ℕ) → slice_get (y ∷ ys) k ≡ Some x
        → ((j : ℕ) → slice_get ys j ≡ Some x → position_from t (i + 1) ys ≡ None → ⊥) → ⊥
    by true is e j here ih = none_some (sym e)
    by false is e zero here ih = false≢true (sym is ∙ ap t (some_same here) ∙ holds)
    by false is e (suc j) here ih = ih j here e

-- ---- modules that refer to a symbol

module _ (c : Combined) (roots : List (List ℕ)) (marks : List Bool) (live : AreLive c roots marks) where
  refers_from : (n k : ℕ) (ds : List Definition) → slice_get c.modules k ≡ Some ds → any_refers marks n ds ≡ true → RefersFrom c roots n k
  refers_from n k ds there h =
      let d = any_one (refers marks n) ds h in
      let a = both_true d.0.prevails (contains marks d.0.symbol && list_any (λ r. nat_eq r n) d.0.refs) d.2 in
      let b = both_true (contains marks d.0.symbol) (list_any (λ r. nat_eq r n) d.0.refs) a.1 in
      let r = any_one (λ r. nat_eq r n) d.0.refs b.1 in
      record {
        definitions = ds;
        definition = d.0;
        there = there;
        one = d.1;
        prevails = a.0;
        live = (live.live d.0.symbol).0 b.0;
        refers = subst (Contains d.0.refs) (eqb-true r.0 n r.2) r.1;
      }

  any_from : (n k : ℕ) → RefersFrom c roots n k → (ds : List Definition) × (slice_get c.modules k ≡ Some ds) × (any_refers marks n ds ≡ true)
  any_from n k r = (
    r.definitions,
    r.there,
    one_any (refers marks n) r.definitions r.definition r.one
        (both_are r.definition.prevails (contains marks r.definition.symbol && list_any (λ z. nat_eq z n) r.definition.refs) r.prevails
        (both_are (contains marks r.definition.symbol) (list_any (λ z. nat_eq z n) r.definition.refs) ((live.live r.definition.symbol).1 r.live)
        (one_any (λ z. nat_eq z n) r.definition.refs n r.refers (eq-eqb n n refl)))),
  )

  pub first_module : (n k : ℕ) → position_from (any_refers marks n) 0 c.modules ≡ Some k → IsFirstModule c roots n k
  first_module n k h =
      let f = first_at (any_refers marks n) 0 c.modules k h in
      let same : f.0 ≡ k = (let e : k ≡ 0 + f.0 = f.1 in omega (arith, e)) in
      subst (IsFirstModule c roots n) same (record {
        one = refers_from n f.0 f.2.0 f.2.1 f.2.2;
        first = λ other r. let a = any_from n other r in f.2.3 other a.0 a.1 a.2;
      })

  -- what a live symbol refers to, its definition refers to in some module
  source : (n m : ℕ) → contains marks m ≡ true → Contains (refs c m) n → (k : ℕ) × RefersFrom c roots n k
  source n m marked h = by (prevailing_of c m) refl h
    where
      by : (o : Option Definition) → prevailing_of c m ≡ o → Contains (refs_of o) n → (k : ℕ) × RefersFrom c roots n k
      by None is e = let l : e.0 < 0 = e.1 in absurd (omega (arith, l))
      by (Some d) is e =
          let found = find_one (prevails_for m) (definitions c) d is in
          let tests = both_true d.prevails (nat_eq d.symbol m) found.1 in
          let place = joined c.modules d found.0 in (
            place.0,
            record {
              definitions = place.1;
              definition = d;
              there = place.2;
              one = place.3;
              prevails = tests.0;
              live = (live.live d.symbol).0 (ap (contains marks) (eqb-true d.symbol m tests.1) ∙ marked);
              refers = e;
            },
          )

  pub are-referred : AreReferred c marks
  are-referred n name at none =
      let lacking : IsLacking c roots n name = lacking_is c roots marks live n name at in
      let from = source n lacking.referred.0 ((live.live lacking.referred.0).1 lacking.referred.1) lacking.referred.2 in
      let there = any_from n from.0 from.1 in
      position_there (any_refers marks n) 0 c.modules from.0 there.0 there.1 there.2 none
