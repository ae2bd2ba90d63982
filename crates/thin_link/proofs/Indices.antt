-- The combined index of modules is one.
use Rattle.std.proofs.Common.{◌≡◌, ◌∙◌, inl, inr, ℕ, ◌<◌, true, false, None, List, [], map, length, All, sym, ap, subst}
use Rattle.std.proofs.lemmas.Bool.{cases_order}
use Rattle.std.proofs.lemmas.Map.Keys.{apart_from_distinct}
use Rattle.std.specs.Cmp.{and_equiv, nat_eq_equiv, on_equiv}
use Rattle.std.specs.Cmp.Lexicographic.{nat_list_eq_equiv, options_equiv}
use Rattle.std.specs.List.{IsDistinct}
use Rattle.ir_tree.specs.declared.operand.Symbol.{Symbol}
use Rattle.ir_summary.specs.declared.summary.Summary.{Summary}
use Rattle.symbol_resolve.specs.Resolved.{Symbols}
use Rattle.combined_index.specs.Combined.{AreWithin, Combined, IsWithin}
use Rattle.combined_index.specs.Entries.{Entry}
use Rattle.ir_tree.specs.Symbols.{symbol_eq}
use Rattle.ir_tree.proofs.Symbols.{symbol_self}
use Rattle.combined_index.specs.Indexed.{IsCombined, named, symbol_at}
use Rattle.combined_index.specs.declared.definition.Definition.{Definition}
use Rattle.thin_link.proofs.Determined.{same_from_map}

module _ (ss : List Symbol) (distinct : IsDistinct symbol_eq ss) where
  apart : (m n : ℕ) → m < n → n < length ss → symbol_at ss m ≡ symbol_at ss n → ⊥
  apart m n before inside same =
      let no : symbol_eq (symbol_at ss m) (symbol_at ss n) ≡ false = apart_from_distinct symbol_eq ss m n (record { home = None; name = [] }) distinct before inside in
      let yes : symbol_eq (symbol_at ss m) (symbol_at ss n) ≡ true = ap (symbol_eq (symbol_at ss m)) (sym same) ∙ symbol_self (symbol_at ss m) in
      let both : true ≡ false = sym yes ∙ no in
      cc

  pub one_number : (m n : ℕ) → m < length ss → n < length ss → symbol_at ss m ≡ symbol_at ss n → m ≡ n
  one_number m n low high same = elim (cases_order m n) [
    | inl e ↦ e
    | inr o ↦ elim o [ inl less ↦ absurd (apart m n less high same) | inr more ↦ absurd (apart n m more low (sym same)) ]
  ]

  one_list : (ms ns : List ℕ) → All (λ n. n < length ss) ms → All (λ n. n < length ss) ns → map (symbol_at ss) ms ≡ map (symbol_at ss) ns → ms ≡ ns
  one_list = same_from_map (symbol_at ss) (λ n. n < length ss) one_number

  one_definition : (d e : Definition) → IsWithin (length ss) d → IsWithin (length ss) e → named ss d ≡ named ss e → d ≡ e
  one_definition d e low high same =
      λ i. record {
        symbol = one_number d.symbol e.symbol low.symbol high.symbol (ap (λ (x : Entry). x.symbol) same) i;
        linkage = ap (λ (x : Entry). x.linkage) same i;
        count = ap (λ (x : Entry). x.count) same i;
        noinline = ap (λ (x : Entry). x.noinline) same i;
        optnone = ap (λ (x : Entry). x.optnone) same i;
        prevails = ap (λ (x : Entry). x.prevails) same i;
        calls = one_list d.calls e.calls low.calls high.calls (ap (λ (x : Entry). x.calls) same) i;
        refs = one_list d.refs e.refs low.refs high.refs (ap (λ (x : Entry). x.refs) same) i;
      }

  one_module : (ds es : List Definition) → AreWithin (length ss) ds → AreWithin (length ss) es → map (named ss) ds ≡ map (named ss) es → ds ≡ es
  one_module = same_from_map (named ss) (IsWithin (length ss)) one_definition

  one_link : (ms ns : List (List Definition)) → All (AreWithin (length ss)) ms → All (AreWithin (length ss)) ns → map (λ m. map (named ss) m) ms ≡ map (λ m. map (named ss) m) ns → ms ≡ ns
  one_link = same_from_map (λ m. map (named ss) m) (AreWithin (length ss)) one_module

pub one_index : (table : Symbols) (all : List (List Summary)) (c d : Combined) → IsCombined table all c → IsCombined table all d → c ≡ d
one_index table all c d x y =
    let symbols : c.symbols ≡ d.symbols = x.symbols ∙ sym y.symbols in
    let within : All (AreWithin (length c.symbols)) d.modules = subst (λ (ss : List Symbol). All (AreWithin (length ss)) d.modules) (sym symbols) y.index.within in
    let modules : c.modules ≡ d.modules =
    one_link c.symbols x.index.distinct c.modules d.modules x.index.within within
    (x.entries ∙ sym y.entries ∙ ap (λ (ss : List Symbol). map (λ m. map (named ss) m) d.modules) (sym symbols)) in
    λ i. record { symbols = symbols i; modules = modules i }
