-- The definitions of an index are those of modules that prevail.
use Rattle.std.proofs.Common.{◌≡◌, ◌∙◌, ◌+◌, ℕ, zero, suc, true, List, [], ◌∷◌, length, map, Some, None, option_map, nat_eq, slice_get, refl, subst, sym, ap, arith}
use Rattle.std.proofs.lemmas.Bool.{and_from, and_parts, eq-eqb, eqb-true}
use Rattle.std.proofs.lemmas.Option.{get_or_from_slice_get, slice_get-map, slice_get_within}
use Rattle.std.specs.List.{Contains}
use Rattle.ir_tree.specs.Once.{once}
use Rattle.ir_tree.specs.Linkages.{defines}
use Rattle.ir_tree.specs.declared.module.GlobalValue.{GlobalValue}
use Rattle.ir_tree.specs.declared.module.Module.{Module}
use Rattle.ir_tree.specs.declared.operand.Symbol.{Symbol}
use Rattle.ir_summary.specs.References.{global_names}
use Rattle.ir_summary.specs.Summaries.{summaries}
use Rattle.ir_summary.specs.declared.summary.Summary.{Summary}
use Rattle.symbol_resolve.specs.Resolved.{Symbols, symbols}
use Rattle.combined_index.specs.Combined.{AreWithin, Combined, IsWithin, definitions, prevailing_of, prevails_for}
use Rattle.combined_index.specs.Entries.{Entry}
use Rattle.combined_index.specs.Entries as entries
use Rattle.combined_index.specs.Indexed.{named, symbol_at}
use Rattle.combined_index.specs.declared.definition.Definition.{Definition}
use Rattle.ir_meaning.specs.Programs.{symbol_of}
use Rattle.merge_meaning.proofs.Standing.{in_joined, map_from}
use Rattle.combined_index.proofs.Sources.{find_one, joined}
use Rattle.merge_meaning.specs.Laws.{AllWhole, IsGivenBy}
use Rattle.merge_meaning.specs.Merged.{symbol_in}
use Rattle.merge_meaning.proofs.Looked.{some_is}
use Rattle.merge_meaning.proofs.Once.{mapped}
use Rattle.merge_meaning.proofs.Prevailing.{at_place, from_kept}
use Rattle.merge_meaning.proofs.Reordered.{contains}
use Rattle.thin_link.specs.Linking.{IsIndex}
use Rattle.thin_link.proofs.Indices.{one_number}
use Rattle.importer.proofs.Places.{found_some, placed, to_kept}
use Rattle.link_one.proofs.Summed.{from_summaries, in_summaries, plain_symbol, prevails_same, summed, sums, symbol_same}

-- ---- entries of modules

pub entries_at : (table : Symbols) (from : ℕ) (ms : List Module) (i : ℕ) (m : Module) → slice_get ms i ≡ Some m
    → slice_get (entries.entries_from table from (map (λ m. summaries m.globals) ms)) i ≡ Some (entries.entries table (from + i) (summaries m.globals))
entries_at table from [] i m e = absurd (cc e)
entries_at table from (x ∷ ms) zero m e =
    let number : from ≡ from + 0 = omega arith in
    ap (λ (n : ℕ). Some (entries.entries table n (summaries x.globals))) number
    ∙ ap (λ (y : Module). Some (entries.entries table (from + 0) (summaries y.globals))) (some_is x m e)
entries_at table from (x ∷ ms) (suc i) m e =
    let number : suc from + i ≡ from + suc i = omega arith in
    entries_at table (suc from) ms i m e ∙ ap (λ (n : ℕ). Some (entries.entries table n (summaries m.globals))) number

pub entries_from : (table : Symbols) (from : ℕ) (ms : List Module) (i : ℕ) (es : List Entry)
    → slice_get (entries.entries_from table from (map (λ m. summaries m.globals) ms)) i ≡ Some es
    → (m : Module) × (slice_get ms i ≡ Some m) × (entries.entries table (from + i) (summaries m.globals) ≡ es)
entries_from table from [] i es e = absurd (cc e)
entries_from table from (x ∷ ms) zero es e =
    let number : from + 0 ≡ from = omega arith in
    (x, refl, ap (λ (n : ℕ). entries.entries table n (summaries x.globals)) number ∙ some_is (entries.entries table from (summaries x.globals)) es e)
entries_from table from (x ∷ ms) (suc i) es e =
    let rest = entries_from table (suc from) ms i es e in
    let number : from + suc i ≡ suc from + i = omega arith in
    (rest.0, rest.1, ap (λ (n : ℕ). entries.entries table n (summaries rest.0.globals)) number ∙ rest.2)

-- ---- from the index to modules

-- a definition of the index comes from a global value that prevails; it has its symbol and names what it names
pub record Comes (ms : List Module) (index : Combined) (n : ℕ) (d : Definition) : Type 0 where
  pub k : ℕ
  pub m : Module
  pub g : GlobalValue
  pub given : IsGivenBy ms k m g
  pub symbol : symbol_in k m.globals (symbol_of g) ≡ symbol_at index.symbols n
  pub refs : map (symbol_at index.symbols) d.refs ≡ map (entries.symbol_of k (entries.is_own (summaries m.globals))) (once (global_names g))
  pub calls : (s : Symbol) → Contains (map (symbol_at index.symbols) d.calls) s → (name : List ℕ) × Contains (global_names g) name × (entries.symbol_of k (entries.is_own (summaries m.globals)) name ≡ s)
  pub within : IsWithin (length index.symbols) d

module _ (ms : List Module) (whole : AllWhole ms) (index : Combined) (ix : IsIndex ms index) where
  -- an entry of a module is that of a global value
  entry_comes : (k : ℕ) (m : Module) (p n : ℕ) (d : Definition) → slice_get ms k ≡ Some m
      → slice_get (entries.entries (symbols ms) k (summaries m.globals)) p ≡ Some (named index.symbols d)
      → d.prevails ≡ true → d.symbol ≡ n → IsWithin (length index.symbols) d → Comes ms index n d
  entry_comes k m p n d at there counts number within =
      let origin = from_kept (entries.entry_of (symbols ms) k (entries.is_own (summaries m.globals))) (λ (s : Summary). defines s.linkage) (summaries m.globals) p
      (named index.symbols d) there in
      let defined = from_summaries m.globals origin.1 origin.0 origin.2 in
      let says = sums defined.0 origin.0 defined.3 in
      let same = prevails_same ms k m.globals (whole k m at) defined.1 defined.0 origin.0 defined.2 says origin.3 in
      record {
        k = k;
        m = m;
        g = defined.0;
        given = record {
          number = at;
          place = defined.1;
          stands = defined.2;
          kept = sym same ∙ ap (λ (e : Entry). e.prevails) origin.4 ∙ counts;
        };
        symbol =
            ap (λ (s : Symbol). symbol_in k m.globals s) (plain_symbol m.globals (whole k m at) defined.1 defined.0 origin.0.name defined.2 says.name)
            ∙ symbol_same k m.globals origin.0.name
            ∙ ap (λ (e : Entry). e.symbol) origin.4
            ∙ ap (λ (i : ℕ). symbol_at index.symbols i) number;
        refs =
            sym (ap (λ (e : Entry). e.refs) origin.4)
            ∙ ap (λ (names : List (List ℕ)). map (entries.symbol_of k (entries.is_own (summaries m.globals))) names) says.refs;
        calls = λ s c.
            let callee = map_from (entries.symbol_of k (entries.is_own (summaries m.globals))) origin.0.calls s
            (subst (λ (ss : List Symbol). Contains ss s) (sym (ap (λ (e : Entry). e.calls) origin.4)) c) in
            (callee.0, says.calls callee.0 callee.1, callee.2);
        within = within;
      }

  -- so is one that stands in the index and prevails
  pub comes_there : (k : ℕ) (ds : List Definition) (d : Definition) → slice_get index.modules k ≡ Some ds → Contains ds d → d.prevails ≡ true → Comes ms index d.symbol d
  comes_there k ds d stands inside counts =
      let at = placed ds d inside in
      let listed : slice_get (entries.combined (symbols ms) (map (λ m. summaries m.globals) ms)) k ≡ Some (map (named index.symbols) ds) =
      ap (λ (all : List (List Entry)). slice_get all k) (sym ix.entries)
      ∙ slice_get-map (λ (ds : List Definition). map (named index.symbols) ds) index.modules k
      ∙ ap (option_map (λ (ds : List Definition). map (named index.symbols) ds)) stands in
      let from = entries_from (symbols ms) 0 ms k (map (named index.symbols) ds) listed in
      let number : k ≡ 0 + k = omega arith in
      let there : slice_get (entries.entries (symbols ms) k (summaries from.0.globals)) at.0 ≡ Some (named index.symbols d) =
      ap (λ (es : List Entry). slice_get es at.0) (ap (λ (i : ℕ). entries.entries (symbols ms) i (summaries from.0.globals)) number ∙ from.2)
      ∙ slice_get-map (named index.symbols) ds at.0
      ∙ ap (option_map (named index.symbols)) at.1 in
      let all : AreWithin (length index.symbols) ds = at_place (λ (xs : List Definition). AreWithin (length index.symbols) xs) index.modules k ds ix.index.within stands in
      entry_comes k from.0 at.0 d.symbol d from.1 there counts refl (at_place (λ (x : Definition). IsWithin (length index.symbols) x) ds at.0 d all at.1)

  pub comes : (n : ℕ) (d : Definition) → prevailing_of index n ≡ Some d → Comes ms index n d
  comes n d e =
      let found = find_one (prevails_for n) (definitions index) d e in
      let tests = and_parts d.prevails (nat_eq d.symbol n) found.1 in
      let stood = joined index.modules d found.0 in
      subst (λ (i : ℕ). Comes ms index i d) (eqb-true d.symbol n tests.1) (comes_there stood.0 stood.1 d stood.2 stood.3 tests.0)

  -- ---- and back

  -- a definition of a symbol that a module gives is found in the index
  pub not_none : (k : ℕ) (m : Module) (g : GlobalValue) → IsGivenBy ms k m g → (n : ℕ) (s : Symbol) → slice_get index.symbols n ≡ Some s
      → symbol_in k m.globals (symbol_of g) ≡ s → prevailing_of index n ≡ None → ⊥
  not_none k m g p n s at same none =
      let sum = summed ms k g p.kept in
      let says = sums g sum.0 sum.1 in
      let place = in_summaries m.globals p.place g sum.0 p.stands sum.1 in
      let kept = to_kept (entries.entry_of (symbols ms) k (entries.is_own (summaries m.globals))) (λ (t : Summary). defines t.linkage) (summaries m.globals) place.0 sum.0 place.1 sum.2 in
      let number : 0 + k ≡ k = omega arith in
      let listed : slice_get (map (λ (ds : List Definition). map (named index.symbols) ds) index.modules) k ≡ Some (entries.entries (symbols ms) k (summaries m.globals)) =
      ap (λ (all : List (List Entry)). slice_get all k) ix.entries
      ∙ entries_at (symbols ms) 0 ms k m p.number
      ∙ ap (λ (i : ℕ). Some (entries.entries (symbols ms) i (summaries m.globals))) number in
      let ds = mapped (λ (ds : List Definition). map (named index.symbols) ds) index.modules k (entries.entries (symbols ms) k (summaries m.globals)) listed in
      let d = mapped (named index.symbols) ds.0 kept.0 (entries.entry_of (symbols ms) k (entries.is_own (summaries m.globals)) sum.0)
      (ap (λ (es : List Entry). slice_get es kept.0) ds.2 ∙ kept.1) in
      let all : AreWithin (length index.symbols) ds.0 = at_place (λ (x : List Definition). AreWithin (length index.symbols) x) index.modules k ds.0 ix.index.within ds.1 in
      let within : IsWithin (length index.symbols) d.0 = at_place (λ (x : Definition). IsWithin (length index.symbols) x) ds.0 kept.0 d.0 all d.1 in
      let counts : d.0.prevails ≡ true =
      ap (λ (e : Entry). e.prevails) d.2 ∙ prevails_same ms k m.globals (whole k m p.number) p.place g sum.0 p.stands says sum.2 ∙ p.kept in
      let symbol : symbol_at index.symbols d.0.symbol ≡ symbol_at index.symbols n =
      ap (λ (e : Entry). e.symbol) d.2
      ∙ sym (symbol_same k m.globals sum.0.name)
      ∙ ap (λ (u : Symbol). symbol_in k m.globals u) (sym (plain_symbol m.globals (whole k m p.number) p.place g sum.0.name p.stands says.name))
      ∙ same
      ∙ sym (get_or_from_slice_get index.symbols n s (record { home = None; name = [] }) at) in
      let one : d.0.symbol ≡ n = one_number index.symbols ix.index.distinct d.0.symbol n within.symbol (slice_get_within index.symbols n s at) symbol in
      found_some (prevails_for n) (definitions index) d.0
      (in_joined (λ (x : List Definition). x) index.modules ds.0 d.0 (contains index.modules k ds.0 ds.1) (contains ds.0 kept.0 d.0 d.1))
      (and_from d.0.prevails (nat_eq d.0.symbol n) counts (eq-eqb d.0.symbol n one)) none
