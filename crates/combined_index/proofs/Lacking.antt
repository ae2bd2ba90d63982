-- What the marks say of names that a link lacks.
use Rattle.std.proofs.Common.{◌≡◌, ◌∙◌, ◌&&◌, ℕ, zero, suc, ◌+◌, ◌<◌, Bool, true, false, not, List, [], ◌∷◌, length, Option, Some, None, refl, sym, ap, arith, slice_get, get_or}
use Rattle.std.proofs.lemmas.Bool.{false≢true}
use Rattle.std.specs.List.{Contains}
use Rattle.std.specs.Option.{is_none, is_some}
use Rattle.ir_tree.specs.declared.operand.Symbol.{Symbol}
use Rattle.lto_sets.specs.Sets.{contains}
use Rattle.symbol_resolve.specs.Clashes.{IsLeast}
use Rattle.combined_index.specs.Combined.{Combined, number_of, prevailing_of}
use Rattle.combined_index.specs.declared.definition.Definition.{Definition}
use Rattle.combined_index.specs.Best.{Candidate, IsBest, lesser_if}
use Rattle.combined_index.specs.Liveness.{AllExported, AreLive, IsDefined, IsLacking, IsLive, IsUndefined, IsUnexported, NoneUndefined, refs, is_host}
use Rattle.combined_index.specs.LiveMarks.{IsLackingAt, IsUnexportedAt, exported, is_lacking}
use Rattle.combined_index.specs.Reach.{leads, starts}
use Rattle.combined_index.proofs.Leasts.{best-more, best-same}
use Rattle.combined_index.proofs.Starting.{exported_is, exported_there, some_same}

none_some : {X : Type 0} {x : X} → None ≡ Some x → ⊥
none_some h = cc

pub both_true : (a b : Bool) → a && b ≡ true → (a ≡ true) × (b ≡ true)
both_true true b h = (refl, h)
both_true false b h = absurd cc

pub both_are : (a b : Bool) → a ≡ true → b ≡ true → a && b ≡ true
both_are a b h g = ap (λ (x : Bool). x && b) h ∙ g

abbrev symbol_by : Option ℕ → List ℕ → Symbol
symbol_by home name = record { home = home; name = name }

none_is : {X : Type 0} (o : Option X) → is_none o ≡ true → o ≡ None
none_is None h = refl
none_is (Some x) h = absurd cc

not_some : {X : Type 0} (o : Option X) → is_some o ≡ false → o ≡ None
not_some None h = refl
not_some (Some x) h = absurd cc

is_none_of : {X : Type 0} (o : Option X) → o ≡ None → is_none o ≡ true
is_none_of o h = ap is_none h

not_true : (b : Bool) → not b ≡ true → b ≡ false
not_true true h = absurd cc
not_true false h = refl

pub inside : {X : Type 0} (xs : List X) (n : ℕ) (x : X) → slice_get xs n ≡ Some x → n < length xs
inside [] n x h = absurd (none_some h)
inside (y ∷ ys) zero x h = omega arith
inside (y ∷ ys) (suc n) x h = let l : n < length ys = inside ys n x h in omega arith

pub got : {X : Type 0} (xs : List X) (k : ℕ) (d : X) → k < length xs → slice_get xs k ≡ Some (get_or xs k d)
got [] k d l = absurd (omega arith)
got (y ∷ ys) zero d l = refl
got (y ∷ ys) (suc k) d l = let m : k < length ys = omega arith in got ys k d m

-- ---- undefined names

module _ (c : Combined) (roots : List (List ℕ)) (marks : List Bool) (live : AreLive c roots marks) where
  -- what is live and has no definition is referred to
  pub referred : (n : ℕ) → IsLive c roots n → prevailing_of c n ≡ None → (m : ℕ) × IsLive c roots m × Contains (refs c m) n
  referred n (starts _ e) none = let d : IsDefined c n = e.3 in absurd (none_some (sym none ∙ d.1))
  referred n (leads m _ r h) none = (m, r, h)

  pub lacking_is : (n : ℕ) (name : List ℕ) → IsLackingAt c marks n name → IsLacking c roots n name
  lacking_is n name h =
      let s = h.0 in
      let a = both_true (contains marks n) (is_none s.home && (is_none (prevailing_of c n) && not (is_host s.name))) h.3 in
      let b = both_true (is_none s.home) (is_none (prevailing_of c n) && not (is_host s.name)) a.1 in
      let d = both_true (is_none (prevailing_of c n)) (not (is_host s.name)) b.1 in
      let none : prevailing_of c n ≡ None = none_is (prevailing_of c n) d.0 in
      record {
        named = h.1 ∙ ap (λ (t : Symbol). Some t) (symbol_is s (none_is s.home b.0) h.2);
        foreign = ap is_host (sym h.2) ∙ not_true (is_host s.name) d.1;
        undefined = none;
        referred = referred n ((live.live n).0 a.0) none;
      }
    where
      symbol_is : (s : Symbol) → s.home ≡ None → s.name ≡ name → s ≡ record { home = None; name = name }
      symbol_is s h g =
          let first : s ≡ record { home = None; name = s.name } = ap (λ (x : Option ℕ). symbol_by x s.name) h in
          first ∙ ap (symbol_by None) g

  lacking_at : (n : ℕ) (name : List ℕ) → IsLacking c roots n name → IsLackingAt c marks n name
  lacking_at n name l =
      let r = l.referred in
      let marked : contains marks n ≡ true = (live.live n).1 (leads r.0 n r.1 r.2) in (
        record { home = None; name = name },
        l.named,
        refl,
        both_are (contains marks n) (true && (is_none (prevailing_of c n) && not (is_host name))) marked
            (both_are (is_none (prevailing_of c n)) (not (is_host name)) (is_none_of (prevailing_of c n) l.undefined) (ap not l.foreign)),
      )

  pub none-undefined : IsBest (IsLackingAt c marks) (length c.symbols) None → NoneUndefined c roots
  none-undefined none name u =
      let at : IsLackingAt c marks u.0 name = lacking_at u.0 name u.1 in
      none u.0 name (inside c.symbols u.0 at.0 at.1) at

  pub least-undefined : (n : ℕ) (name : List ℕ) → IsBest (IsLackingAt c marks) (length c.symbols) (Some (name, n)) → IsLeast (IsUndefined c roots) name × IsLacking c roots n name
  least-undefined n name best = (
    record {
      one = (n, here);
      least = λ other u.
          let at : IsLackingAt c marks u.0 other = lacking_at u.0 other u.1 in
          best.2 u.0 other (inside c.symbols u.0 at.0 at.1) at;
    },
    here,
  )
    where
      here : IsLacking c roots n name
      here = lacking_is n name best.1

-- ---- one more symbol, or one more name to be exported

module _ (c : Combined) (marks : List Bool) (i : ℕ) (best : Option Candidate) (s : Symbol) (there : slice_get c.symbols i ≡ Some s) where
  lacking_one : (name : List ℕ) → IsLackingAt c marks i name → (s.name ≡ name) × (is_lacking c marks i s ≡ true)
  lacking_one name h =
      let same : s ≡ h.0 = some_same (sym there ∙ h.1) in
      (ap (λ (t : Symbol). t.name) same ∙ h.2, ap (is_lacking c marks i) same ∙ h.3)

  pub symbol-step : (b : Bool) → b ≡ is_lacking c marks i s → IsBest (IsLackingAt c marks) i best → IsBest (IsLackingAt c marks) (i + 1) (lesser_if b best (s.name, i))
  symbol-step true is old =
      best-more (IsLackingAt c marks) i best s.name (s, there, refl, sym is) (λ other h. sym (lacking_one other h).0) old
  symbol-step false is old = best-same (IsLackingAt c marks) i best (λ name h. false≢true (is ∙ (lacking_one name h).1)) old

module _ (c : Combined) (roots : List (List ℕ)) (i : ℕ) (best : Option Candidate) (name : List ℕ) (there : slice_get roots i ≡ Some name) where
  unexported_one : (other : List ℕ) → IsUnexportedAt c roots i other → name ≡ other
  unexported_one other h = some_same (sym there ∙ h.0)

  pub root-step : (b : Bool) → is_some (exported c name) ≡ not b → IsBest (IsUnexportedAt c roots) i best → IsBest (IsUnexportedAt c roots) (i + 1) (lesser_if b best (name, i))
  root-step true is old =
      best-more (IsUnexportedAt c roots) i best name (there, not_some (exported c name) is) (λ other h. sym (unexported_one other h)) old
  root-step false is old =
      best-same (IsUnexportedAt c roots) i best
      (λ other h. false≢true (sym (ap is_some h.1) ∙ ap (λ (n : List ℕ). is_some (exported c n)) (sym (unexported_one other h)) ∙ is)) old

-- ---- names to be exported

at_place : {X : Type 0} (xs : List X) (x : X) → Contains xs x → (k : ℕ) × (k < length xs) × (slice_get xs k ≡ Some x)
at_place xs x h = (h.0, h.1, got xs h.0 x h.1 ∙ ap Some h.2)

is_there : {X : Type 0} (xs : List X) (k : ℕ) (x : X) → slice_get xs k ≡ Some x → Contains xs x
is_there xs k x h = let l : k < length xs = inside xs k x h in (k, l, some_same (sym (got xs k x l) ∙ h))

module _ (c : Combined) (roots : List (List ℕ)) where
  unexported_at : (name : List ℕ) → IsUnexported c roots name → (k : ℕ) × (k < length roots) × IsUnexportedAt c roots k name
  unexported_at name u = let at = at_place roots name u.0 in (at.0, at.1, (at.2, nowhere (exported c name) refl))
    where
      nowhere : (o : Option ℕ) → exported c name ≡ o → exported c name ≡ None
      nowhere None is = is
      nowhere (Some n) is =
          let found : (number_of c name ≡ Some n) × IsDefined c n = exported_is c name n is in
          absurd (none_some (sym (u.1 n found.0) ∙ found.1.1))

  unexported_is : (k : ℕ) (name : List ℕ) → IsUnexportedAt c roots k name → IsUnexported c roots name
  unexported_is k name h = (is_there roots k name h.0, λ n is. nothing n is (prevailing_of c n) refl)
    where
      nothing : (n : ℕ) → number_of c name ≡ Some n → (o : Option Definition) → prevailing_of c n ≡ o → prevailing_of c n ≡ None
      nothing n is None e = e
      nothing n is (Some d) e = absurd (none_some (sym h.1 ∙ exported_there c name n is (d, e)))

  pub all-exported : IsBest (IsUnexportedAt c roots) (length roots) None → AllExported c roots
  all-exported none name u = let at = unexported_at name u in none at.0 name at.1 at.2

  pub least-unexported : (k : ℕ) (name : List ℕ) → IsBest (IsUnexportedAt c roots) (length roots) (Some (name, k)) → IsLeast (IsUnexported c roots) name
  least-unexported k name best = record {
    one = unexported_is k name best.1;
    least = λ other u. let at = unexported_at other u in best.2 at.0 other at.1 at.2;
  }
