-- What is live in a link that lacks nothing is closed in the merged program.
use Rattle.std.proofs.Common.{◌≡◌, ◌∙◌, ◌⊎◌, inl, inr, ◌+◌, ◌||◌, ◌&&◌, ℕ, zero, suc, Bool, true, false, cond, not, is_none, if◌then◌else◌, List, [], ◌∷◌, ◌++◌, map, filter, Option, Some, None, codes, bytes_eq, slice_get, refl, sym, ap, subst, arith}
use Rattle.std.proofs.lemmas.Bool.{and_from, and_parts, false≢true, or_cases, or_left, or_right}
use Rattle.std.proofs.lemmas.List.Elements.{Contains-append_cases}
use Rattle.std.proofs.lemmas.Slice.Eq.{bytes_eq-Decides}
use Rattle.std.specs.List.{Contains, flat_map}
use Rattle.std.specs.Option.{is_some}
use Rattle.ir_tree.specs.Linkages.{defines}
use Rattle.ir_tree.specs.Symbols.{symbol_eq}
use Rattle.ir_tree.specs.declared.module.GlobalValue.{GlobalValue}
use Rattle.ir_tree.specs.declared.module.Module.{Module}
use Rattle.ir_tree.specs.declared.operand.Symbol.{Symbol}
use Rattle.ir_tree.proofs.Symbols.{symbol_same as symbols_same, symbol_true}
use Rattle.ir_summary.specs.Summaries.{summaries}
use Rattle.ir_summary.specs.declared.summary.Summary.{Summary}
use Rattle.symbol_resolve.specs.Mentions.{mentions}
use Rattle.symbol_resolve.specs.Prevailing.{prevailing}
use Rattle.symbol_resolve.specs.Resolved.{symbols}
use Rattle.symbol_resolve.specs.declared.mention.Standing.{Standing}
use Rattle.ir_meaning.specs.Frame.{AHost, GetChar, Missing, PutChar}
use Rattle.ir_meaning.specs.Programs.{Body, Definition, Storage, definition_of, host_of, kind_of, shared, signature_of, symbol_of, undefined_kind}
use Rattle.lto_sets.specs.Sets.{contains as is_member}
use Rattle.combined_index.specs.Combined.{Combined, prevailing_of}
use Rattle.combined_index.specs.Entries.{Entry}
use Rattle.combined_index.specs.Entries as entries
use Rattle.combined_index.specs.declared.definition.Definition.{Definition as Listed}
use Rattle.combined_index.specs.Reach.{leads}
use Rattle.combined_index.specs.Liveness.{IsLive, is_host}
use Rattle.combined_index.proofs.Lacking.{referred}
use Rattle.combined_index.proofs.Sources.{any_one}
use Rattle.merge_meaning.proofs.Standing.{filter_from, first, first_or_later, joined_from, later, map_from, nothing}
use Rattle.merge_meaning.specs.Laws.{AllWhole, IsGivenBy}
use Rattle.merge_meaning.specs.Merged.{is_own, merged_from, merged_globals, prevails_as, standing_of, symbol_in}
use Rattle.merge_meaning.proofs.Hosting.{hosts_defined, hosts_kind}
use Rattle.merge_meaning.proofs.Prevailing.{symbol_by_parts}
use Rattle.merge_meaning.proofs.Reordered.{contains}
use Rattle.thin_link.specs.Linking.{IsIndex, IsThinLink}
use Rattle.importer.proofs.Places.{placed}
use Rattle.link_one.specs.MeaningLaws.{LiveIsClosed}
use Rattle.merge_meaning.specs.Lives.{is_live}
use Rattle.link_one.proofs.Indexed.{entries_from, not_none}
use Rattle.link_one.proofs.References.{index_finds, index_names, none_is}
use Rattle.link_one.proofs.Summed.{none_of, own_same, plain_symbol, symbol_same}

-- ---- symbols that are marked

pub live_at : (symbols : List Symbol) (live : List Bool) (s : Symbol) → is_live symbols live s ≡ true → (n : ℕ) × (slice_get symbols n ≡ Some s) × (is_member live n ≡ true)
live_at [] live s h = absurd (false≢true h)
live_at (t ∷ symbols) [] s h = absurd (false≢true h)
live_at (t ∷ symbols) (mark ∷ live) s h = by (or_cases (mark && symbol_eq t s) (is_live symbols live s) h) (λ rest. live_at symbols live s rest)
  where
    by : ((mark && symbol_eq t s) ≡ true) ⊎ (is_live symbols live s ≡ true)
        → (is_live symbols live s ≡ true → (n : ℕ) × (slice_get symbols n ≡ Some s) × (is_member live n ≡ true))
        → (n : ℕ) × (slice_get (t ∷ symbols) n ≡ Some s) × (is_member (mark ∷ live) n ≡ true)
    by (inl here) more = let parts = and_parts mark (symbol_eq t s) here in (0, ap (λ (u : Symbol). Some u) (symbol_true t s parts.1), parts.0)
    by (inr rest) more = let found = more rest in (suc found.0, found.1, found.2)

pub live_there : (symbols : List Symbol) (live : List Bool) (s : Symbol) (n : ℕ) → slice_get symbols n ≡ Some s → is_member live n ≡ true → is_live symbols live s ≡ true
live_there [] live s n at on = absurd (cc at)
live_there (t ∷ symbols) [] s n at on = absurd (false≢true on)
live_there (t ∷ symbols) (mark ∷ live) s zero at on =
    let same : t ≡ s = cc at in
    or_left (mark && symbol_eq t s) (is_live symbols live s) (and_from mark (symbol_eq t s) on (symbols_same t s same))
live_there (t ∷ symbols) (mark ∷ live) s (suc n) at on = or_right (mark && symbol_eq t s) (is_live symbols live s) (live_there symbols live s n at on)

-- ---- symbols of an index

from_once : (ss : List Symbol) (s : Symbol) → Contains (entries.once ss) s → Contains ss s
from_once [] s c = absurd (nothing s c)
from_once (x ∷ ss) s c = by (first_or_later x s (entries.without x (entries.once ss)) c) (λ rest. from_once ss s rest)
  where
    by : (x ≡ s) ⊎ Contains (entries.without x (entries.once ss)) s → (Contains (entries.once ss) s → Contains ss s) → Contains (x ∷ ss) s
    by (inl same) more = subst (λ (y : Symbol). Contains (x ∷ ss) y) same (first x ss)
    by (inr rest) more = later x s ss (more (filter_from (λ (t : Symbol). not (symbol_eq x t)) (entries.once ss) s rest).0)

-- a symbol that stands in a definition's entry is one that a name stands for in the module
stands_for : (own : List ℕ → Bool) (k : ℕ) (name : List ℕ) (calls refs : List (List ℕ)) (s : Symbol)
    → Contains (entries.symbol_of k own name ∷ (map (entries.symbol_of k own) calls ++ map (entries.symbol_of k own) refs)) s
    → (x : List ℕ) × (entries.symbol_of k own x ≡ s)
stands_for own k name calls refs s c =
    by (first_or_later (entries.symbol_of k own name) s (map (entries.symbol_of k own) calls ++ map (entries.symbol_of k own) refs) c)
  where
    among : (names : List (List ℕ)) → Contains (map (entries.symbol_of k own) names) s → (x : List ℕ) × (entries.symbol_of k own x ≡ s)
    among names c = let found = map_from (entries.symbol_of k own) names s c in (found.0, found.2)

    either : Contains (map (entries.symbol_of k own) calls) s ⊎ Contains (map (entries.symbol_of k own) refs) s → (x : List ℕ) × (entries.symbol_of k own x ≡ s)
    either (inl c) = among calls c
    either (inr c) = among refs c

    by : (entries.symbol_of k own name ≡ s) ⊎ Contains (map (entries.symbol_of k own) calls ++ map (entries.symbol_of k own) refs) s → (x : List ℕ) × (entries.symbol_of k own x ≡ s)
    by (inl same) = (name, same)
    by (inr c) = either (Contains-append_cases (map (entries.symbol_of k own) calls) (map (entries.symbol_of k own) refs) s c)

module _ (ms : List Module) (whole : AllWhole ms) (index : Combined) (ix : IsIndex ms index) where
  -- each symbol of an index is one that a name stands for in some module
  symbol_stands_for : (n : ℕ) (s : Symbol) → slice_get index.symbols n ≡ Some s
      → (k : ℕ) × (m : Module) × (name : List ℕ) × (slice_get ms k ≡ Some m) × (entries.symbol_of k (entries.is_own (summaries m.globals)) name ≡ s)
  symbol_stands_for n s at =
      let stand = from_once (entries.stand_in (entries.combined (symbols ms) (map (λ m. summaries m.globals) ms))) s
      (subst (λ (ss : List Symbol). Contains ss s) ix.symbols (contains index.symbols n s at)) in
      let es = joined_from (λ (m : List Entry). flat_map entries.stands_in m) (entries.combined (symbols ms) (map (λ m. summaries m.globals) ms)) s stand in
      let place = placed (entries.combined (symbols ms) (map (λ m. summaries m.globals) ms)) es.0 es.1 in
      let origin = entries_from (symbols ms) 0 ms place.0 es.0 place.1 in
      let e = joined_from entries.stands_in es.0 s es.2 in
      let number : 0 + place.0 ≡ place.0 = omega arith in
      let listed : Contains (entries.entries (symbols ms) place.0 (summaries origin.0.globals)) e.0 =
      subst (λ (x : List Entry). Contains x e.0) (sym origin.2 ∙ ap (λ (k : ℕ). entries.entries (symbols ms) k (summaries origin.0.globals)) number) e.1 in
      let t = map_from (entries.entry_of (symbols ms) place.0 (entries.is_own (summaries origin.0.globals))) (filter (λ (x : Summary). defines x.linkage) (summaries origin.0.globals)) e.0 listed in
      let found = stands_for (entries.is_own (summaries origin.0.globals)) place.0 t.0.name t.0.calls t.0.refs s
      (subst (λ (x : Entry). Contains (entries.stands_in x) s) (sym t.2) e.2) in
      (place.0, origin.0, found.0, origin.1, found.1)

  own_from_home : (b : Bool) (k l : ℕ) → ◌≡◌ {A = Option ℕ} (if b then Some k else None) (Some l) → b ≡ true
  own_from_home true k l e = refl
  own_from_home false k l e = absurd (cc e)

  -- a local symbol has a definition that prevails
  local_defined : (n : ℕ) (s : Symbol) (home : ℕ) → slice_get index.symbols n ≡ Some s → s.home ≡ Some home → prevailing_of index n ≡ None → ⊥
  local_defined n s home at has none =
      let origin = symbol_stands_for n s at in
      let summed_own : entries.is_own (summaries origin.1.globals) origin.2 ≡ true =
      own_from_home (entries.is_own (summaries origin.1.globals) origin.2) origin.0 home (ap (λ (u : Symbol). u.home) origin.4 ∙ has) in
      let own : is_own origin.1.globals origin.2 ≡ true = sym (own_same origin.1.globals origin.2) ∙ summed_own in
      let found = any_one (λ (h : GlobalValue). is_none (standing_of h) && bytes_eq origin.2 (symbol_of h).name) origin.1.globals own in
      let parts = and_parts (is_none (standing_of found.0)) (bytes_eq origin.2 (symbol_of found.0).name) found.2 in
      let place = placed origin.1.globals found.0 found.1 in
      let given : IsGivenBy ms origin.0 origin.1 found.0 = record {
        number = origin.3;
        place = place.0;
        stands = place.1;
        kept = ap (λ (st : Option Standing). prevails_as (prevailing (mentions ms) (symbol_of found.0).name) origin.0 st) (none_of (standing_of found.0) parts.0);
      } in
      not_none ms whole index ix origin.0 origin.1 found.0 given n s at
      (ap (λ (u : Symbol). symbol_in origin.0 origin.1.globals u)
      (plain_symbol origin.1.globals (whole origin.0 origin.1 origin.3) place.0 found.0 origin.2 place.1 ((bytes_eq-Decides origin.2 (symbol_of found.0).name).0 parts.1))
      ∙ symbol_same origin.0 origin.1.globals origin.2 ∙ origin.4)
      none

-- ---- what is live is there

-- functions of the outside are declared, so a symbol is what its definition says
kind_known : (ms : List Module) (s : Symbol) → (signature_of (merged_globals ms)).kind s ≡ kind_of true s (definition_of (merged_globals ms) s)
kind_known ms s =
    hosts_kind (merged_from ms 0 ms) s
    ∙ ap (λ (d : Option Definition). kind_of true s d) (sym (hosts_defined (merged_from ms 0 ms) s))

defined_kind : (s : Symbol) (o : Option Definition) → is_some o ≡ true → kind_of true s o ≡ Missing → ⊥
defined_kind s None h missing = false≢true h
defined_kind s (Some (Body f)) h missing = cc missing
defined_kind s (Some (Storage n v init)) h missing = cc missing

host_kind : (name : List ℕ) → is_host name ≡ true → host_of name ≡ Missing → ⊥
host_kind name h missing = by (bytes_eq name (codes "putchar")) (bytes_eq name (codes "getchar")) h missing
  where
    by : (a b : Bool) → (a || b) ≡ true → cond a (AHost PutChar) (cond b (AHost GetChar) Missing) ≡ Missing → ⊥
    by true b h missing = cc missing
    by false true h missing = cc missing
    by false false h missing = false≢true h

module _ (ms : List Module) (exports : List (List ℕ)) (limit : ℕ) (index : Combined) (live : List Bool) (imports : List (List ℕ)) (whole : AllWhole ms)
    (link : IsThinLink ms exports limit index live imports) where
  -- a live symbol that nobody defines is one of the outside's functions
  outside_kind : (n : ℕ) (s : Symbol) → slice_get index.symbols n ≡ Some s → IsLive index exports n → prevailing_of index n ≡ None
      → kind_of true s (definition_of (merged_globals ms) s) ≡ Missing → ⊥
  outside_kind n s at lives none missing = by s.home refl
    where
      undefined : definition_of (merged_globals ms) s ≡ None
      undefined = none_is (definition_of (merged_globals ms) s) (sym (index_finds ms index whole link.combined n s at) ∙ ap (λ (o : Option Listed). is_some o) none)

      foreign : s.home ≡ None → (b : Bool) → is_host s.name ≡ b → ⊥
      foreign home true h =
          host_kind s.name h (ap (λ (o : Option ℕ). undefined_kind o s.name) (sym home) ∙ ap (λ (o : Option Definition). kind_of true s o) (sym undefined) ∙ missing)
      foreign home false h = link.defined s.name (
        n,
        record {
          named = at ∙ ap (λ (u : Symbol). Some u) (symbol_by_parts s (shared s.name) home refl);
          foreign = h;
          undefined = none;
          referred = referred index exports live link.alive n lives none;
        },
      )

      by : (home : Option ℕ) → s.home ≡ home → ⊥
      by None home = foreign home (is_host s.name) refl
      by (Some k) home = local_defined ms whole index link.combined n s k at home none

  kind_there : (n : ℕ) (s : Symbol) → slice_get index.symbols n ≡ Some s → IsLive index exports n → kind_of true s (definition_of (merged_globals ms) s) ≡ Missing → ⊥
  kind_there n s at lives missing = by (prevailing_of index n) refl
    where
      by : (o : Option Listed) → prevailing_of index n ≡ o → ⊥
      by None e = outside_kind n s at lives e missing
      by (Some d) e =
          defined_kind s (definition_of (merged_globals ms) s) (sym (index_finds ms index whole link.combined n s at) ∙ ap (λ (o : Option Listed). is_some o) e) missing

pub live_closed : LiveIsClosed
live_closed ms exports limit index live imports whole link = record {
  there = λ s lives missing.
      let at = live_at index.symbols live s lives in
      kind_there ms exports limit index live imports whole link at.0 s at.1 ((link.alive.live at.0).0 at.2) (sym (kind_known ms s) ∙ missing);
  closed = λ s lives.
      let at = live_at index.symbols live s lives in
      index_names ms index whole link.combined at.0 s at.1 (is_live index.symbols live)
      (λ r t c there. live_there index.symbols live t r there ((link.alive.live r).1 (leads at.0 r ((link.alive.live at.0).0 at.2) c)));
}
