-- Keys are equal exactly where their symbols are.
use Rattle.std.proofs.Common.{◌≡◌, ◌∙◌, ◌||◌, ℕ, sym, ap, ap₂, refl, Bool, true, false, cond, List, [], ◌∷◌, ◌++◌, Some, slice_get, option_map}
use Rattle.std.proofs.lemmas.List.{map-append}
use Rattle.std.proofs.lemmas.Option.{slice_get-map}
use Rattle.std.specs.List.{AllByRecursion, IsDistinct, list_any}
use Rattle.indexmap.specs.IndexSet.{insert_key}
use Rattle.ir_tree.specs.declared.operand.Symbol.{Symbol}
use Rattle.combined_index.specs.contracts.key.KeyPartialEq.TheImpl as derived
use Rattle.ir_tree.specs.Symbols.{symbol_eq}
use Rattle.ir_tree.proofs.Symbols.{symbol_true}
use Rattle.combined_index.specs.Numbered.{NumbersSymbol, noted, symbol, symbols}
use Rattle.combined_index.specs.declared.key.Key.{Key}

abbrev pub same_key : Key → Key → Bool
same_key = derived.eq-value.it

-- equality in the code
pub same : (a b : Key) → same_key a b ≡ symbol_eq (symbol a) (symbol b)
same a b = refl

any_same : (k : Key) (ks : List Key) → list_any (same_key k) ks ≡ list_any (symbol_eq (symbol k)) (symbols ks)
any_same k [] = refl
any_same k (x ∷ xs) = ap₂ (λ (a b : Bool). a || b) (same k x) (any_same k xs)

-- one more key
pub key_noted : (ks : List Key) (k : Key) → symbols (insert_key same_key ks k) ≡ noted (symbols ks) (symbol k)
key_noted ks k = by (list_any (same_key k) ks) refl
  where
    by : (b : Bool) → list_any (same_key k) ks ≡ b → symbols (insert_key same_key ks k) ≡ noted (symbols ks) (symbol k)
    by true h =
        ap (λ (b : Bool). symbols (cond b ks (ks ++ k ∷ []))) h
        ∙ sym (ap (λ (b : Bool). cond b (symbols ks) (symbols ks ++ symbol k ∷ [])) (sym (any_same k ks) ∙ h))
    by false h =
        ap (λ (b : Bool). symbols (cond b ks (ks ++ k ∷ []))) h ∙ map-append symbol ks (k ∷ [])
        ∙ sym (ap (λ (b : Bool). cond b (symbols ks) (symbols ks ++ symbol k ∷ [])) (sym (any_same k ks) ∙ h))

-- a key is numbered where it was put
pub key_numbered : (ks then : List Key) (k stored : Key) (n : ℕ) → then ≡ insert_key same_key ks k → slice_get then n ≡ Some stored → same_key k stored ≡ true
    → NumbersSymbol (symbols ks) (symbol k) (symbols then) n
key_numbered ks then k stored n is at alike = record {
  grown = ap symbols is ∙ key_noted ks k;
  named = slice_get-map symbol then n ∙ ap (option_map symbol) at ∙ ap (λ (s : Symbol). Some s) (sym (symbol_true (symbol k) (symbol stored) (sym (same k stored) ∙ alike)));
}

apart : (k : Key) (ks : List Key) → AllByRecursion (λ y. same_key k y ≡ false) ks → AllByRecursion (λ t. symbol_eq (symbol k) t ≡ false) (symbols ks)
apart k [] h = h
apart k (x ∷ xs) h = (sym (same k x) ∙ h.0, apart k xs h.1)

-- keys that differ are of symbols that do
pub distinct_symbols : (ks : List Key) → IsDistinct same_key ks → IsDistinct symbol_eq (symbols ks)
unfolding IsDistinct
distinct_symbols [] h = h
distinct_symbols (k ∷ ks) h = (apart k ks h.0, distinct_symbols ks h.1)
