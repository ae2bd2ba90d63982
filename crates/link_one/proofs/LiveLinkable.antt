-- The live definitions are all that they refer to, and each exported name is defined among them.
use Rattle.std.proofs.Common.{◌≡◌, ◌≢◌, ◌∙◌, ◌⊎◌, inl, inr, ◌+◌, ℕ, Bool, true, List, get_or, All, Option, Some, None, codes, slice_get, refl, sym, ap, subst}
use Rattle.std.proofs.lemmas.Bool.{false≢true}
use Rattle.std.proofs.lemmas.List.Elements.{All-map, All-nil}
use Rattle.std.proofs.lemmas.Option.{slice_get-get_or}
use Rattle.std.specs.List.{Contains}
use Rattle.std.specs.Option.{is_some}
use Rattle.ir_tree.specs.Symbols.{symbol_eq}
use Rattle.ir_tree.specs.Wholes.{GlobalKnown, ItemKnown, global_symbol, symbols}
use Rattle.ir_tree.specs.declared.module.GlobalValue.{GlobalValue}
use Rattle.ir_tree.specs.declared.module.GlobalValue.TheVariants as global
use Rattle.ir_tree.specs.declared.module.Module.{Module}
use Rattle.ir_tree.specs.declared.operand.Symbol.{Symbol}
use Rattle.ir_tree.proofs.Symbols.{symbol_true}
use Rattle.ir_meaning.specs.Refine.{Naming}
use Rattle.ir_meaning.specs.Programs.{Body, Definition, Storage, defined, definition_of, is_declared, shared, symbol_of}
use Rattle.combined_index.specs.Combined.{Combined}
use Rattle.combined_index.specs.declared.definition.Definition.{Definition as Listed}
use Rattle.combined_index.proofs.Sources.{any_one}
use Rattle.combined_index.specs.Finals.{NoneTaken, final_names}
use Rattle.merge_meaning.specs.Globals.{global_under, named_by}
use Rattle.merge_meaning.specs.Laws.{AllWhole}
use Rattle.merge_meaning.specs.Linked.{AreEmitted, DefinitionNames, IsDefinition, IsUnder}
use Rattle.merge_meaning.specs.Lives.{final_symbol, is_live, live_globals}
use Rattle.merge_meaning.specs.Merged.{merged_from, merged_globals, symbol_in, with_host}
use Rattle.merge_meaning.specs.Linkable.{IsOutside}
use Rattle.merge_meaning.proofs.Emission.{one_under}
use Rattle.merge_meaning.proofs.Hosting.{host_every}
use Rattle.merge_meaning.proofs.Looked.{looked_up, same_symbol}
use Rattle.merge_meaning.proofs.Once.{merged_once}
use Rattle.merge_meaning.proofs.Prevailing.{defined_some, from_kept, given}
use Rattle.merge_meaning.proofs.Standing.{in_map}
use Rattle.thin_link.specs.Linking.{IsThinLink}
use Rattle.importer.proofs.Places.{placed}
use Rattle.link_one.specs.MeaningLaws.{ExportedIsDefined, LiveIsKnown}
use Rattle.link_one.proofs.Finals.{live_emitted}
use Rattle.link_one.proofs.Known.{global_known}
use Rattle.link_one.proofs.References.{index_finds}
use Rattle.link_one.proofs.LiveRefining.{exported_defined, exported_live, exported_symbol}

-- ---- lists of global values

each_place : {X : Type 0} (P : X → Type 0) (xs : List X) → ((j : ℕ) (x : X) → slice_get xs j ≡ Some x → P x) → All P xs
each_place P xs f = λ k d l. f k (get_or xs k d) (slice_get-get_or xs k d l)

-- what is declared has its symbol there
declared_contained : (gs : List GlobalValue) (s : Symbol) → is_declared gs s ≡ true → Contains (symbols gs) s
declared_contained gs s h =
    let found = any_one (λ (g : GlobalValue). symbol_eq (symbol_of g) s) gs h in
    subst (λ (u : Symbol). Contains (symbols gs) u) (sym (same_symbol found.0) ∙ symbol_true (symbol_of found.0) s found.2) (in_map global_symbol gs found.0 found.1)

-- ---- under other names

-- what is defined is still defined
still_defined : (t : Naming) (o u : Option Definition) → is_some o ≡ true → IsUnder t o u → u ≡ None → ⊥
still_defined t None u h under none = false≢true h
still_defined t (Some (Body f)) u h under none = subst (λ (x : Option Definition). IsUnder t (Some (Body f)) x) none under
still_defined t (Some (Storage n v init)) u h under none = subst (λ (x : Option Definition). IsUnder t (Some (Storage n v init)) x) none under

no_home : (suffixes : List (List ℕ)) (g : GlobalValue) → (global_symbol (global_under (named_by (final_symbol suffixes)) g)).home ≡ None
no_home suffixes (global.Function f) = refl
no_home suffixes (global.Variable v) = refl

-- ---- what is merged

abbrev IsDefined : GlobalValue → Type 0
IsDefined g = (n : ℕ) → (d : Definition) × (defined n g ≡ Some d)

given_defined : (ms : List Module) (j : ℕ) (g : GlobalValue) → slice_get (merged_from ms 0 ms) j ≡ Some g → IsDefined g ⊎ IsOutside g
given_defined ms j g e =
    let o = given ms 0 ms j g e in
    inl (subst (λ (x : GlobalValue). IsDefined x) o.is (defined_some (named_by (symbol_in (0 + o.i) o.m.globals)) ms (0 + o.i) o.h o.kept))

-- each is defined or a function of the outside
merged_each : (ms : List Module) (j : ℕ) (g : GlobalValue) → slice_get (merged_globals ms) j ≡ Some g → IsDefined g ⊎ IsOutside g
merged_each ms =
    host_every (λ (g : GlobalValue). IsDefined g ⊎ IsOutside g) (codes "getchar") (inr (inr refl)) (with_host (codes "putchar") (merged_from ms 0 ms))
    (host_every (λ (g : GlobalValue). IsDefined g ⊎ IsOutside g) (codes "putchar") (inr (inl refl)) (merged_from ms 0 ms) (given_defined ms))

module _ (ms : List Module) (exports : List (List ℕ)) (limit : ℕ) (index : Combined) (live : List Bool) (imports suffixes : List (List ℕ)) (whole : AllWhole ms)
    (link : IsThinLink ms exports limit index live imports) (none : NoneTaken (final_names suffixes index.symbols live)) where
  abbrev gs : List GlobalValue
  gs = live_globals ms index.symbols live suffixes

  abbrev t : Naming
  t = named_by (final_symbol suffixes)

  emitted : AreEmitted (is_live index.symbols live) (final_symbol suffixes) (merged_globals ms) gs
  emitted = live_emitted ms exports limit index live imports suffixes whole link none

  there : (s : Symbol) → is_live index.symbols live s ≡ true → Contains (symbols gs) (final_symbol suffixes s)
  there s lives = declared_contained gs (final_symbol suffixes s) (emitted.declares s lives)

  -- where each comes from
  origin : (j : ℕ) (g : GlobalValue) → slice_get gs j ≡ Some g
      → (h : GlobalValue) × (i : ℕ) × (slice_get (merged_globals ms) i ≡ Some h) × (is_live index.symbols live (symbol_of h) ≡ true) × (global_under t h ≡ g)
  origin j g e = from_kept (global_under t) (λ (h : GlobalValue). is_live index.symbols live (symbol_of h)) (merged_globals ms) j g e

  known_of : (i : ℕ) (h : GlobalValue) → slice_get (merged_globals ms) i ≡ Some h → is_live index.symbols live (symbol_of h) ≡ true → GlobalKnown (symbols gs) (global_under t h)
  known_of i h at lives = by (merged_each ms i h at)
    where
      by : IsDefined h ⊎ IsOutside h → GlobalKnown (symbols gs) (global_under t h)
      by (inl is) =
          let found = looked_up (merged_globals ms) (merged_once ms whole) i h at is 0 in
          global_known t (is_live index.symbols live) (symbols gs) there found.0 h (is found.0).0 (is found.0).1
          (subst (λ (o : Option Definition). DefinitionNames (is_live index.symbols live) o) (found.1 ∙ (is found.0).1) (emitted.reached.closed (symbol_of h) lives))
      by (inr (inl same)) = subst (λ (x : GlobalValue). GlobalKnown (symbols gs) (global_under t x)) (sym same) (All-nil (ItemKnown (symbols gs)))
      by (inr (inr same)) = subst (λ (x : GlobalValue). GlobalKnown (symbols gs) (global_under t x)) (sym same) (All-nil (ItemKnown (symbols gs)))

  each_of : (h g : GlobalValue) → global_under t h ≡ g → IsDefined h ⊎ IsOutside h → IsDefinition g ⊎ IsOutside g
  each_of h g same (inl is) =
      inl (subst (λ (x : GlobalValue). IsDefinition x) same
      (still_defined t (defined 0 h) (defined 0 (global_under t h)) (ap (λ (o : Option Definition). is_some o) (is 0).1) (one_under t 0 0 h)))
  each_of h g same (inr (inl host)) = inr (inl (sym same ∙ ap (global_under t) host))
  each_of h g same (inr (inr host)) = inr (inr (sym same ∙ ap (global_under t) host))

  homeless : All (λ (s : Symbol). s.home ≡ None) (symbols gs)
  homeless =
      All-map (λ (s : Symbol). s.home ≡ None) global_symbol gs
      (each_place (λ (g : GlobalValue). (global_symbol g).home ≡ None) gs (λ j g e.
      let o = origin j g e in subst (λ (x : GlobalValue). (global_symbol x).home ≡ None) o.4 (no_home suffixes o.0)))

  exported_there : (name : List ℕ) → Contains exports name → definition_of gs (shared name) ≢ None
  exported_there name c missing =
      let found = exported_defined ms exports limit index live imports link name c in
      let lives = exported_live ms exports limit index live imports link name c in
      let at = exported_symbol ms exports limit index live imports link name found.0 found.1 in
      let same : final_symbol suffixes (shared name) ≡ shared name = emitted.named.keeps (shared name) refl in
      still_defined t (definition_of (merged_globals ms) (shared name)) (definition_of gs (final_symbol suffixes (shared name)))
      (sym (index_finds ms index whole link.combined found.0 (shared name) at) ∙ ap (λ (o : Option Listed). is_some o) found.2.1)
      (emitted.defines (shared name) lives)
      (ap (definition_of gs) same ∙ missing)

pub live_known : LiveIsKnown
live_known ms exports limit index live imports suffixes whole link none = record {
  once = (emitted ms exports limit index live imports suffixes whole link none).once;
  homeless = homeless ms exports limit index live imports suffixes whole link none;
  known = each_place (GlobalKnown (symbols (live_globals ms index.symbols live suffixes))) (live_globals ms index.symbols live suffixes) (λ j g e.
      let o = origin ms exports limit index live imports suffixes whole link none j g e in
      subst (λ (x : GlobalValue). GlobalKnown (symbols (live_globals ms index.symbols live suffixes)) x) o.4
      (known_of ms exports limit index live imports suffixes whole link none o.1 o.0 o.2 o.3));
  each = λ g c.
      let at = placed (live_globals ms index.symbols live suffixes) g c in
      let o = origin ms exports limit index live imports suffixes whole link none at.0 g at.1 in
      each_of ms exports limit index live imports suffixes whole link none o.0 g o.4 (merged_each ms o.1 o.0 o.2);
}

pub exported_is_defined : ExportedIsDefined
exported_is_defined ms exports limit index live imports suffixes whole link none name c =
    (exported_live ms exports limit index live imports link name c, exported_there ms exports limit index live imports suffixes whole link none name c)
