-- An index finds the definitions of the merged program, and names what they refer to.
use Rattle.std.proofs.Common.{◌≡◌, ◌∙◌, ◌⊎◌, inl, inr, ◌<◌, ℕ, Bool, true, false, not, List, [], ◌∷◌, length, Option, Some, None, bytes_eq, slice_get, refl, sym, ap, subst}
use Rattle.std.proofs.lemmas.Bool.{not_from_false}
use Rattle.std.proofs.lemmas.List.Elements.{All-contains}
use Rattle.std.proofs.lemmas.Option.{get_or_from_slice_get, slice_get-get_or}
use Rattle.std.proofs.lemmas.Slice.Eq.{bytes_eq-Decides}
use Rattle.std.specs.List.{Contains}
use Rattle.std.specs.Option.{is_some}
use Rattle.ir_tree.specs.Once.{once, without}
use Rattle.ir_tree.specs.Wholes.{GlobalKnown, symbols as all_symbols}
use Rattle.ir_tree.specs.declared.module.GlobalValue.{GlobalValue}
use Rattle.ir_tree.specs.declared.module.Module.{Module}
use Rattle.ir_tree.specs.declared.operand.Symbol.{Symbol}
use Rattle.ir_summary.specs.References.{global_names}
use Rattle.ir_summary.specs.Summaries.{summaries}
use Rattle.combined_index.specs.Combined.{Combined, prevailing_of}
use Rattle.combined_index.specs.Entries as entries
use Rattle.combined_index.specs.Indexed.{symbol_at}
use Rattle.combined_index.specs.declared.definition.Definition.{Definition as Listed}
use Rattle.combined_index.specs.Liveness.{refs, refs_of}
use Rattle.ir_meaning.specs.Programs.{Definition, definition_of, shared, symbol_of}
use Rattle.merge_meaning.proofs.Standing.{first, first_or_later, in_filter, in_map, later, map_from, nothing}
use Rattle.merge_meaning.specs.Globals.{named_by}
use Rattle.merge_meaning.specs.Laws.{AllWhole}
use Rattle.merge_meaning.specs.Linked.{DefinitionNames}
use Rattle.merge_meaning.specs.Merged.{merged_globals, symbol_in}
use Rattle.merge_meaning.proofs.Emission.{symbol_under}
use Rattle.merge_meaning.proofs.Names.{clash}
use Rattle.merge_meaning.proofs.Prevailing.{at_place, defined_prevails, defined_some, prevailing_defined}
use Rattle.thin_link.specs.Linking.{IsIndex}
use Rattle.link_one.specs.MeaningLaws.{IndexFindsDefinitions, IndexNamesReferences}
use Rattle.merge_meaning.proofs.Bodies.{definition_names, global_kept}
use Rattle.link_one.proofs.Indexed.{Comes, comes, not_none}
use Rattle.link_one.proofs.Summed.{symbol_same}

-- ---- names that stand once

once_keeps : (names : List (List ℕ)) (name : List ℕ) → Contains names name → Contains (once names) name
once_keeps [] name c = absurd (nothing name c)
once_keeps (x ∷ names) name c = by (bytes_eq x name) refl (first_or_later x name names c) (λ rest. once_keeps names name rest)
  where
    by : (b : Bool) → bytes_eq x name ≡ b → (x ≡ name) ⊎ Contains names name → (Contains names name → Contains (once names) name) → Contains (x ∷ without x (once names)) name
    by true e c rest = subst (λ (y : List ℕ). Contains (x ∷ without x (once names)) y) ((bytes_eq-Decides x name).0 e) (first x (without x (once names)))
    by false e (inl same) rest = absurd (clash (bytes_eq x name) e ((bytes_eq-Decides x name).1 same))
    by false e (inr more) rest =
        later x name (without x (once names)) (in_filter (λ (y : List ℕ). not (bytes_eq x y)) (once names) name (rest more) (not_from_false (bytes_eq x name) e))

-- ---- definitions

pub none_is : {X : Type 0} (o : Option X) → is_some o ≡ false → o ≡ None
none_is None h = refl
none_is (Some x) h = absurd (cc h)

module _ (ms : List Module) (whole : AllWhole ms) (index : Combined) (ix : IsIndex ms index) (n : ℕ) (s : Symbol) (at : slice_get index.symbols n ≡ Some s) where
  -- the symbol that a definition of the index comes from
  symbol_comes : (d : Listed) (h : Comes ms index n d) → symbol_in h.k h.m.globals (symbol_of h.g) ≡ s
  symbol_comes d h = h.symbol ∙ get_or_from_slice_get index.symbols n s (record { home = None; name = [] }) at

  -- the program defines it as the module does
  defined_there : (d : Listed) (h : Comes ms index n d) → definition_of (merged_globals ms) s ≡ None → ⊥
  defined_there d h none =
      let there = prevailing_defined ms whole h.k h.m h.g h.given in
      let is = defined_some (named_by (symbol_in h.k h.m.globals)) ms h.k h.g h.given.kept there.0 in
      let lacks : definition_of (merged_globals ms) (symbol_in h.k h.m.globals (symbol_of h.g)) ≡ None = ap (definition_of (merged_globals ms)) (symbol_comes d h) ∙ none in
      let both : ◌≡◌ {A = Option Definition} None (Some is.0) = sym lacks ∙ there.1 ∙ is.1 in
      cc both

  -- what the program's definition has stands in the index
  found_there : (d : Definition) → definition_of (merged_globals ms) s ≡ Some d → prevailing_of index n ≡ None → ⊥
  found_there d e none =
      let origin = defined_prevails ms s d e in
      not_none ms whole index ix origin.0 origin.1 origin.2 origin.4 n s at
      (sym (symbol_under (named_by (symbol_in origin.0 origin.1.globals)) origin.2) ∙ origin.5) none

  same_there : is_some (prevailing_of index n) ≡ is_some (definition_of (merged_globals ms) s)
  same_there = by (prevailing_of index n) refl (definition_of (merged_globals ms) s) refl
    where
      by : (o : Option Listed) → prevailing_of index n ≡ o → (d : Option Definition) → definition_of (merged_globals ms) s ≡ d → is_some o ≡ is_some d
      by None e None f = refl
      by (Some o) e (Some d) f = refl
      by None e (Some d) f = absurd (found_there d f e)
      by (Some o) e None f = absurd (defined_there o (comes ms whole index ix n o e) f)

  -- a name that the module's definition has is the name of one of the symbols that the index says it refers to
  reference_kept : (d : Listed) → prevailing_of index n ≡ Some d → (h : Comes ms index n d) → (keeps : Symbol → Bool)
      → ((r : ℕ) (t : Symbol) → Contains (refs index n) r → slice_get index.symbols r ≡ Some t → keeps t ≡ true)
      → (name : List ℕ) → Contains (global_names h.g) name → keeps (symbol_in h.k h.m.globals (shared name)) ≡ true
  reference_kept d e h keeps kept name c =
      let there = in_map (entries.symbol_of h.k (entries.is_own (summaries h.m.globals))) (once (global_names h.g)) name (once_keeps (global_names h.g) name c) in
      let found = map_from (symbol_at index.symbols) d.refs (entries.symbol_of h.k (entries.is_own (summaries h.m.globals)) name)
      (subst (λ (ss : List Symbol). Contains ss (entries.symbol_of h.k (entries.is_own (summaries h.m.globals)) name)) (sym h.refs) there) in
      let inside : found.0 < length index.symbols = All-contains (λ (r : ℕ). r < length index.symbols) d.refs found.0 h.within.refs found.1 in
      let refers : Contains (refs index n) found.0 = subst (λ (o : Option Listed). Contains (refs_of o) found.0) (sym e) found.1 in
      subst (λ (u : Symbol). keeps u ≡ true) (found.2 ∙ sym (symbol_same h.k h.m.globals name))
      (kept found.0 (symbol_at index.symbols found.0) refers (slice_get-get_or index.symbols found.0 (record { home = None; name = [] }) inside))

  names_there : (keeps : Symbol → Bool) → ((r : ℕ) (t : Symbol) → Contains (refs index n) r → slice_get index.symbols r ≡ Some t → keeps t ≡ true)
      → DefinitionNames keeps (definition_of (merged_globals ms) s)
  names_there keeps kept = by (prevailing_of index n) refl
    where
      by : (o : Option Listed) → prevailing_of index n ≡ o → DefinitionNames keeps (definition_of (merged_globals ms) s)
      by None e =
          subst (λ (d : Option Definition). DefinitionNames keeps d)
          (sym (none_is (definition_of (merged_globals ms) s) (sym same_there ∙ ap (λ (o : Option Listed). is_some o) e))) tt
      by (Some d) e =
          let h = comes ms whole index ix n d e in
          let there = prevailing_defined ms whole h.k h.m h.g h.given in
          let module_whole = whole h.k h.m h.given.number in
          subst (λ (u : Symbol). DefinitionNames keeps (definition_of (merged_globals ms) u)) (symbol_comes d h)
          (subst (λ (o : Option Definition). DefinitionNames keeps o) (sym there.1)
          (definition_names (named_by (symbol_in h.k h.m.globals)) keeps there.0 h.g
          (global_kept (named_by (symbol_in h.k h.m.globals)) keeps (all_symbols h.m.globals) module_whole.homeless h.g
          (at_place (λ (g : GlobalValue). GlobalKnown (all_symbols h.m.globals) g) h.m.globals h.given.place h.g module_whole.known h.given.stands)
          (reference_kept d e h keeps kept))))

pub index_finds : IndexFindsDefinitions
index_finds ms index whole ix n s at = same_there ms whole index ix n s at

pub index_names : IndexNamesReferences
index_names ms index whole ix n s at keeps kept = names_there ms whole index ix n s at keeps kept
