-- Where the values of parts come from, and what their names stand for: live symbols, of which a local one is of the same module.
use Rattle.std.proofs.Common.{◌≡◌, ◌∙◌, ◌+◌, ◌&&◌, ℕ, zero, suc, Bool, true, false, cond, List, [], ◌∷◌, map, filter, Option, Some, None, is_none, slice_get, refl, sym, ap, subst, arith}
use Rattle.std.proofs.lemmas.Bool.{and_parts}
use Rattle.std.proofs.lemmas.List.Elements.{All-contains}
use Rattle.std.proofs.lemmas.Option.{get_or_from_slice_get}
use Rattle.std.specs.List.{Contains, list_any}
use Rattle.ir_tree.specs.Linkages.{is_local}
use Rattle.ir_tree.specs.Wholes.{GlobalKnown, symbols as all_symbols}
use Rattle.ir_tree.specs.declared.block.Block.{Block}
use Rattle.ir_tree.specs.declared.module.GlobalValue.{GlobalValue}
use Rattle.ir_tree.specs.declared.module.GlobalValue.TheVariants as global
use Rattle.ir_tree.specs.declared.module.Module.{Module}
use Rattle.ir_tree.specs.declared.operand.Symbol.{Symbol}
use Rattle.ir_tree.specs.Initials.{Initial}
use Rattle.ir_tree.specs.Symbols.{symbol_eq}
use Rattle.ir_tree.proofs.Symbols.{symbol_same as symbols_same, symbol_true}
use Rattle.ir_summary.specs.References.{global_names}
use Rattle.ir_meaning.specs.Programs.{Definition, shared, symbol_of}
use Rattle.symbol_resolve.specs.Mentions.{function_standing, mentions, variable_standing}
use Rattle.symbol_resolve.specs.Prevailing.{prevailing}
use Rattle.combined_index.specs.Combined.{Combined}
use Rattle.combined_index.specs.Indexed.{symbol_at}
use Rattle.combined_index.proofs.Sources.{any_one}
use Rattle.combined_index.specs.Liveness.{refs}
use Rattle.merge_meaning.specs.Globals.{global_under, named_by}
use Rattle.merge_meaning.specs.Laws.{AllWhole, IsGivenBy, taken_in}
use Rattle.merge_meaning.specs.Linked.{DefinitionNames}
use Rattle.merge_meaning.specs.Lives.{final_symbol, is_live, part_of, parts, parts_from}
use Rattle.merge_meaning.specs.Merged.{is_own, local_to, prevails, prevails_as, standing_of, symbol_by, symbol_in}
use Rattle.merge_meaning.proofs.Looked.{some_is}
use Rattle.merge_meaning.proofs.OneModule.{global_stays}
use Rattle.merge_meaning.proofs.Own.{local_standing}
use Rattle.merge_meaning.proofs.Prevailing.{at_place, defined_some, prevailing_defined, symbol_by_parts}
use Rattle.merge_meaning.proofs.Reordered.{contains}
use Rattle.merge_meaning.proofs.Standing.{any_by, filter_from, in_filter, in_map, map_from}
use Rattle.thin_link.specs.Linking.{IsThinLink}
use Rattle.importer.proofs.Places.{placed}
use Rattle.link_one.specs.Units.{linkage_in}
use Rattle.link_one.proofs.Known.{global_known}
use Rattle.link_one.proofs.Lives.{live_at, live_closed}
use Rattle.link_one.proofs.Named.{Names, names_under}
use Rattle.link_one.proofs.References.{index_names}
use Rattle.link_one.proofs.Summed.{own_local}

-- a live definition of module k that prevails
pub record Origin (ms : List Module) (symbols : List Symbol) (live : List Bool) (k : ℕ) (m : Module) (raw : GlobalValue) : Type 0 where
  pub given : IsGivenBy ms k m raw
  pub alive : is_live symbols live (symbol_in k m.globals (symbol_of raw)) ≡ true

-- the name that a symbol of module k has in a part
abbrev pub final_in : List (List ℕ) → ℕ → Module → Symbol → Symbol
final_in suffixes k m s = final_symbol suffixes (symbol_in k m.globals s)

-- ---- parts

module _ (ms : List Module) (symbols : List Symbol) (live : List Bool) (suffixes : List (List ℕ)) where
  parts_at : (from : ℕ) (rest : List Module) (i : ℕ) (part : List GlobalValue) → slice_get (parts_from ms symbols live suffixes from rest) i ≡ Some part
      → (m : Module) × (slice_get rest i ≡ Some m) × (part ≡ part_of ms symbols live suffixes (from + i) m.globals)
  parts_at from [] i part e = absurd (cc e)
  parts_at from (m ∷ rest) zero part e =
      let number : from ≡ from + 0 = omega arith in
      (m, refl, sym (some_is (part_of ms symbols live suffixes from m.globals) part e) ∙ ap (λ (n : ℕ). part_of ms symbols live suffixes n m.globals) number)
  parts_at from (m ∷ rest) (suc i) part e =
      let found = parts_at (suc from) rest i part e in
      let number : suc from + i ≡ from + suc i = omega arith in
      (found.0, found.1, found.2 ∙ ap (λ (n : ℕ). part_of ms symbols live suffixes n found.0.globals) number)

  -- each value of a part is a definition of its module, under final names
  pub part_origin : (i : ℕ) (part : List GlobalValue) (g : GlobalValue) → slice_get (parts ms symbols live suffixes) i ≡ Some part → Contains part g
      → (m : Module) × (raw : GlobalValue) × Origin ms symbols live i m raw × (g ≡ global_under (named_by (final_in suffixes i m)) raw)
  part_origin i part g at there =
      let found = parts_at 0 ms i part at in
      let m : Module = found.0 in
      let number : 0 + i ≡ i = omega arith in
      let is : part ≡ part_of ms symbols live suffixes i m.globals = found.2 ∙ ap (λ (n : ℕ). part_of ms symbols live suffixes n m.globals) number in
      let raw = map_from (global_under (named_by (final_in suffixes i m))) (filter (λ (x : GlobalValue). prevails ms i x && is_live symbols live (symbol_in i m.globals (symbol_of x))) m.globals) g
      (subst (λ (l : List GlobalValue). Contains l g) is there) in
      let passed = filter_from (λ (x : GlobalValue). prevails ms i x && is_live symbols live (symbol_in i m.globals (symbol_of x))) m.globals raw.0 raw.1 in
      let tests = and_parts (prevails ms i raw.0) (is_live symbols live (symbol_in i m.globals (symbol_of raw.0))) passed.1 in
      let place = placed m.globals raw.0 passed.0 in
      (m, raw.0, record { given = record { number = found.1; place = place.0; stands = place.1; kept = tests.0 }; alive = tests.1 }, sym raw.2)

-- ---- locals

-- a definition that prevails is no declaration, so it is none to others where its linkage is local
local_stands : (ms : List Module) (k : ℕ) (g : GlobalValue) → prevails ms k g ≡ true → is_local (linkage_in g) ≡ true → is_none (standing_of g) ≡ true
local_stands ms k (global.Function f) kept local = by f.blocks kept
  where
    by : (bs : List Block) → prevails_as (prevailing (mentions ms) f.symbol.name) k (function_standing bs f.linkage) ≡ true → is_none (function_standing bs f.linkage) ≡ true
    by [] p = absurd (cc p)
    by (b ∷ bs) p = sym (local_standing f.linkage) ∙ local
local_stands ms k (global.Variable v) kept local = by v.init kept
  where
    by : (init : Option Initial) → prevails_as (prevailing (mentions ms) v.symbol.name) k (variable_standing init v.linkage) ≡ true → is_none (variable_standing init v.linkage) ≡ true
    by None p = absurd (cc p)
    by (Some init) p = sym (local_standing v.linkage) ∙ local

linkage_stays : (t : Symbol → Symbol) (g : GlobalValue) → linkage_in (global_under (named_by t) g) ≡ linkage_in g
linkage_stays t (global.Function f) = refl
linkage_stays t (global.Variable v) = refl

own_symbol : (k : ℕ) (own : List ℕ → Bool) (s : Symbol) → own s.name ≡ true → symbol_by k own s ≡ local_to k s.name
own_symbol k own s is = ap (λ (b : Bool). cond b (local_to k s.name) s) is

-- a local definition's symbol is one of its module
pub local_symbol : (ms : List Module) (whole : AllWhole ms) (symbols : List Symbol) (live : List Bool) (k : ℕ) (m : Module) (raw : GlobalValue) (o : Origin ms symbols live k m raw)
    → is_local (linkage_in raw) ≡ true → symbol_in k m.globals (symbol_of raw) ≡ local_to k (symbol_of raw).name
local_symbol ms whole symbols live k m raw o local =
    own_symbol k (is_own m.globals) (symbol_of raw)
    (own_local m.globals (whole k m o.given.number) o.given.place raw o.given.stands ∙ local_stands ms k raw o.given.kept local)

pub local_stays : (t : Symbol → Symbol) (g raw : GlobalValue) → g ≡ global_under (named_by t) raw → is_local (linkage_in g) ≡ true → is_local (linkage_in raw) ≡ true
local_stays t g raw is local = sym (ap is_local (linkage_stays t raw)) ∙ sym (ap (λ (x : GlobalValue). is_local (linkage_in x)) is) ∙ local

-- ---- what names stand for

-- the home of a symbol that a name without a home stands for in module k is k, if it has one
home_of : (b : Bool) (k j : ℕ) (s : Symbol) → s.home ≡ None → (cond b (local_to k s.name) s).home ≡ Some j → k ≡ j
home_of true k j s none e = some_is k j e
home_of false k j s none e = absurd (cc (sym none ∙ e))

module _ (ms : List Module) (exports : List (List ℕ)) (limit : ℕ) (index : Combined) (live : List Bool) (imports : List (List ℕ)) (whole : AllWhole ms)
    (thin : IsThinLink ms exports limit index live imports) where
  abbrev lives : Symbol → Bool
  lives = is_live index.symbols live

  -- the symbols that are live
  abbrev listed : List Symbol
  listed = filter lives index.symbols

  lives_listed : (s : Symbol) → lives s ≡ true → Contains listed s
  lives_listed s on = let at = live_at index.symbols live s on in in_filter lives index.symbols s (contains index.symbols at.0 s at.1) on

  module _ (k : ℕ) (m : Module) (raw : GlobalValue) (o : Origin ms index.symbols live k m raw) where
    -- as it stands in the merged program, a live definition names live symbols alone
    taken_known : GlobalKnown listed (taken_in k m raw)
    taken_known =
        let there = prevailing_defined ms whole k m raw o.given in
        let is = defined_some (named_by (symbol_in k m.globals)) ms k raw o.given.kept there.0 in
        let names : DefinitionNames lives (Some is.0) =
        subst (λ (d : Option Definition). DefinitionNames lives d) (there.1 ∙ is.1)
        ((live_closed ms exports limit index live imports whole thin).closed (symbol_in k m.globals (symbol_of raw)) o.alive) in
        subst (GlobalKnown listed) (global_stays (named_by (λ s. s)) (λ s. refl) (taken_in k m raw))
        (global_known (named_by (λ s. s)) lives listed lives_listed there.0 (taken_in k m raw) is.0 is.1 names)

    -- so each symbol that it names is live
    pub named_lives : (s : Symbol) → Names raw s → lives (symbol_in k m.globals s) ≡ true
    named_lives s names = (filter_from lives index.symbols (symbol_in k m.globals s) (names (named_by (symbol_in k m.globals)) listed taken_known)).1

    -- in the module it has no home
    named_homeless : (s : Symbol) → Names raw s → s.home ≡ None
    named_homeless s names =
        let w = whole k m o.given.number in
        All-contains (λ (x : Symbol). x.home ≡ None) (all_symbols m.globals) s w.homeless
        (names (named_by (λ x. x)) (all_symbols m.globals)
        (subst (GlobalKnown (all_symbols m.globals)) (sym (global_stays (named_by (λ x. x)) (λ x. refl) raw))
        (at_place (λ (g : GlobalValue). GlobalKnown (all_symbols m.globals) g) m.globals o.given.place raw w.known o.given.stands)))

    pub named_home : (s : Symbol) (j : ℕ) → Names raw s → (symbol_in k m.globals s).home ≡ Some j → k ≡ j
    named_home s j names e = home_of (is_own m.globals s.name) k j s (named_homeless s names) e

    -- a name that it has in its module is that of a symbol that it names
    pub name_named : (name : List ℕ) → Contains (global_names raw) name → Names raw (shared name)
    name_named name c =
        let found = names_under (named_by (λ s. s)) raw name (subst (λ (g : GlobalValue). Contains (global_names g) name) (sym (global_stays (named_by (λ s. s)) (λ s. refl) raw)) c) in
        subst (Names raw) (symbol_by_parts found.0 (shared name) (named_homeless found.0 found.2) found.1) found.2

    -- and each symbol that it names is one to which the index says that it refers
    module _ (f : ℕ) (at : slice_get index.symbols f ≡ Some (symbol_in k m.globals (symbol_of raw))) where
      abbrev referred : Symbol → Bool
      referred s = list_any (λ r. symbol_eq (symbol_at index.symbols r) s) (refs index f)

      referred_kept : (r : ℕ) (s : Symbol) → Contains (refs index f) r → slice_get index.symbols r ≡ Some s → referred s ≡ true
      referred_kept r s c here =
          any_by (λ (n : ℕ). symbol_eq (symbol_at index.symbols n) s) (refs index f) r c
          (symbols_same (symbol_at index.symbols r) s (get_or_from_slice_get index.symbols r s (record { home = None; name = [] }) here))

      referred_there : (s : Symbol) → referred s ≡ true → Contains (map (symbol_at index.symbols) (refs index f)) s
      referred_there s on =
          let found = any_one (λ (n : ℕ). symbol_eq (symbol_at index.symbols n) s) (refs index f) on in
          subst (Contains (map (symbol_at index.symbols) (refs index f))) (symbol_true (symbol_at index.symbols found.0) s found.2) (in_map (symbol_at index.symbols) (refs index f) found.0 found.1)

      refs_known : GlobalKnown (map (symbol_at index.symbols) (refs index f)) (taken_in k m raw)
      refs_known =
          let there = prevailing_defined ms whole k m raw o.given in
          let is = defined_some (named_by (symbol_in k m.globals)) ms k raw o.given.kept there.0 in
          let names : DefinitionNames referred (Some is.0) =
          subst (λ (d : Option Definition). DefinitionNames referred d) (there.1 ∙ is.1)
          (index_names ms index whole thin.combined f (symbol_in k m.globals (symbol_of raw)) at referred referred_kept) in
          subst (GlobalKnown (map (symbol_at index.symbols) (refs index f))) (global_stays (named_by (λ s. s)) (λ s. refl) (taken_in k m raw))
          (global_known (named_by (λ s. s)) referred (map (symbol_at index.symbols) (refs index f)) referred_there there.0 (taken_in k m raw) is.0 is.1 names)

      pub named_refers : (s : Symbol) → Names raw s → (r : ℕ) × Contains (refs index f) r × (symbol_at index.symbols r ≡ symbol_in k m.globals s)
      named_refers s names =
          map_from (symbol_at index.symbols) (refs index f) (symbol_in k m.globals s)
          (names (named_by (symbol_in k m.globals)) (map (symbol_at index.symbols) (refs index f)) refs_known)
