-- The index of all modules.
use Rattle.std.proofs.Common.{◌≡◌, ◌∙◌, ◌<◌, ◌+◌, ◌^◌, ℕ, suc, sym, ap, subst, Bool, true, false, cond, List, [], ◌∷◌, ◌++◌, map, filter, length, take, drop, append-nil, slice_index_or}
use Rattle.std.proofs.lemmas.List.{length-map, map-append}
use Rattle.std.proofs.lemmas.List.Elements.{filter_more}
use Rattle.std.specs.List.{IsDistinct}
use Rattle.ir_tree.specs.declared.operand.Symbol.{Symbol}
use Rattle.ir_summary.specs.declared.summary.Summary.{Summary}
use Rattle.symbol_resolve.specs.Resolved.{Symbols}
use Rattle.combined_index.specs.Combined.{Combined, IsIndex}
use Rattle.combined_index.specs.Entries.{Entry, combined, entries, entries_from, stand_in}
use Rattle.ir_tree.specs.Linkages.{defines}
use Rattle.combined_index.specs.Indexed.{IsCombined, named}
use Rattle.combined_index.specs.Numbered.{NumbersModules, all_noted, symbol, symbols}
use Rattle.combined_index.specs.declared.definition.Definition.{Definition}
use Rattle.combined_index.specs.declared.key.Key.{Key}
use Rattle.combined_index.proofs.Keys.{distinct_symbols, same_key}
use Rattle.combined_index.proofs.Onces.{noted_once}
use Rattle.combined_index.proofs.Readings.{modules_read, modules_within}
use Rattle.combined_index.proofs.Scopes.{left}

-- ---- a module's summaries, one after another

module _ (f : Summary → Entry) (ss : List Summary) (i : ℕ) (d : Summary) (lt : i < length ss) (at : d ≡ slice_index_or ss i d) where
  abbrev those : List Summary → List Summary
  those = filter (λ s. defines s.linkage)

  more : those (take (i + 1) ss) ≡ those (take i ss) ++ cond (defines d.linkage) (d ∷ []) []
  more = filter_more (λ s. defines s.linkage) ss i d lt ∙ ap (λ (z : Summary). those (take i ss) ++ those (z ∷ [])) (sym at)

  pub defined_more : defines d.linkage ≡ true → map f (those (take (i + 1) ss)) ≡ map f (those (take i ss)) ++ f d ∷ []
  defined_more h = ap (map f) (more ∙ ap (λ (b : Bool). those (take i ss) ++ cond b (d ∷ []) []) h) ∙ map-append f (those (take i ss)) (d ∷ [])

  pub declared_more : defines d.linkage ≡ false → map f (those (take (i + 1) ss)) ≡ map f (those (take i ss))
  declared_more h = ap (map f) (more ∙ ap (λ (b : Bool). those (take i ss) ++ cond b (d ∷ []) []) h ∙ append-nil (those (take i ss)))

-- ---- modules, one after another

pub module_left : {V : Type 0} (f : V → List Summary) (table : Symbols) (k : ℕ) (ms : List V) (i : ℕ) (d : V) → i < length ms → d ≡ slice_index_or ms i d
    → entries_from table k (map f (drop i ms)) ≡ entries table k (f d) ∷ entries_from table (suc k) (map f (drop (i + 1) ms))
module_left {V = V} f table k ms i d lt at =
    ap (λ (z : List V). entries_from table k (map f z)) (left ms i d lt ∙ ap (λ (z : V). z ∷ drop (i + 1) ms) (sym at))

-- ---- all of them

pub is_index : (start keys : List Key) (es : List (List Entry)) (dss : List (List Definition)) (all : List Symbol) → IsDistinct same_key keys → length keys < 2 ^ 32
    → NumbersModules (symbols start) es (symbols keys) dss → all ≡ symbols keys → IsIndex (record { symbols = all; modules = dss })
is_index start keys es dss all apart few h is =
    subst (λ (ss : List Symbol). IsIndex (record { symbols = ss; modules = dss })) (sym is)
    (record {
      within = modules_within (symbols keys) es dss h.named;
      distinct = distinct_symbols keys apart;
      small = subst (λ (n : ℕ). n < 2 ^ 32) (sym (length-map keys symbol)) few;
    })

pub is_combined : (table : Symbols) (summaries : List (List Summary)) (start keys : List Key) (dss : List (List Definition)) (all : List Symbol) (c : Combined) → start ≡ []
    → NumbersModules (symbols start) (combined table summaries) (symbols keys) dss → all ≡ symbols keys → IsIndex (record { symbols = all; modules = dss })
    → c ≡ record { symbols = all; modules = dss } → IsCombined table summaries c
is_combined table summaries start keys dss all c none h is index same =
    subst (IsCombined table summaries) (sym same)
    (record {
      entries = ap (λ (ss : List Symbol). map (λ m. map (named ss) m) dss) is ∙ modules_read (symbols keys) (combined table summaries) dss h.named;
      symbols =
          is ∙ h.grown ∙ ap (λ (ks : List Key). all_noted (symbols ks) (stand_in (combined table summaries))) none
          ∙ noted_once (stand_in (combined table summaries));
      index = index;
    })
