-- What numbers that were given say once all symbols are there.
use Rattle.std.proofs.Common.{◌≡◌, ◌<◌, ℕ, zero, suc, ap₂, refl, List, [], ◌∷◌, map, length, None, All, arith}
use Rattle.std.proofs.lemmas.Option.{get_or_from_slice_get, slice_get_within}
use Rattle.ir_tree.specs.declared.operand.Symbol.{Symbol}
use Rattle.combined_index.specs.Combined.{AreWithin, IsWithin}
use Rattle.combined_index.specs.Entries.{Entry}
use Rattle.combined_index.specs.Indexed.{named, symbol_at}
use Rattle.combined_index.specs.Numbered.{Each, NamesEntries, NamesEntry, NamesModules, NamesSymbol}
use Rattle.combined_index.specs.declared.definition.Definition.{Definition}

each_read : {X Y : Type 0} (R : X → Y → Type 0) (f : Y → X) → ((x : X) (y : Y) → R x y → f y ≡ x) → (xs : List X) (ys : List Y) → Each R xs ys → map f ys ≡ xs
each_read R f h [] [] e = refl
each_read {X = X} R f h (x ∷ xs) (y ∷ ys) e = ap₂ (λ (a : X) (z : List X). a ∷ z) (h x y e.0) (each_read R f h xs ys e.1)
each_read R f h [] (y ∷ ys) e = absurd e
each_read R f h (x ∷ xs) [] e = absurd e

each_all : {X Y : Type 0} (R : X → Y → Type 0) (P : Y → Type 0) → ((x : X) (y : Y) → R x y → P y) → (xs : List X) (ys : List Y) → Each R xs ys → All P ys
each_all R P h [] [] e k d lt = absurd (no lt)
  where
    no : k < 0 → ⊥
    no lt = omega arith
each_all R P h (x ∷ xs) (y ∷ ys) e zero d lt = h x y e.0
each_all R P h (x ∷ xs) (y ∷ ys) e (suc k) d lt = each_all R P h xs ys e.1 k d (omega arith)
each_all R P h [] (y ∷ ys) e k d lt = absurd e
each_all R P h (x ∷ xs) [] e k d lt = absurd e

module _ (ss : List Symbol) where
  symbol_read : (s : Symbol) (n : ℕ) → NamesSymbol ss s n → symbol_at ss n ≡ s
  symbol_read s n h = get_or_from_slice_get ss n s (record { home = None; name = [] }) h

  symbol_within : (s : Symbol) (n : ℕ) → NamesSymbol ss s n → n < length ss
  symbol_within s n h = slice_get_within ss n s h

  entry_read : (e : Entry) (d : Definition) → NamesEntry ss e d → named ss d ≡ e
  entry_read e d h =
      λ i. record {
        symbol = symbol_read e.symbol d.symbol h.symbol i;
        linkage = h.linkage i;
        count = h.count i;
        noinline = h.noinline i;
        optnone = h.optnone i;
        prevails = h.prevails i;
        calls = each_read (NamesSymbol ss) (symbol_at ss) symbol_read e.calls d.calls h.calls i;
        refs = each_read (NamesSymbol ss) (symbol_at ss) symbol_read e.refs d.refs h.refs i;
      }

  entry_within : (e : Entry) (d : Definition) → NamesEntry ss e d → IsWithin (length ss) d
  entry_within e d h = record {
    symbol = symbol_within e.symbol d.symbol h.symbol;
    calls = each_all (NamesSymbol ss) (λ n. n < length ss) symbol_within e.calls d.calls h.calls;
    refs = each_all (NamesSymbol ss) (λ n. n < length ss) symbol_within e.refs d.refs h.refs;
  }

  -- each module says what its entries say
  pub modules_read : (ms : List (List Entry)) (dss : List (List Definition)) → NamesModules ss ms dss → map (λ m. map (named ss) m) dss ≡ ms
  modules_read = each_read (NamesEntries ss) (λ m. map (named ss) m) (each_read (NamesEntry ss) (named ss) entry_read)

  -- and speaks of symbols that there are
  pub modules_within : (ms : List (List Entry)) (dss : List (List Definition)) → NamesModules ss ms dss → All (AreWithin (length ss)) dss
  modules_within = each_all (NamesEntries ss) (AreWithin (length ss)) (each_all (NamesEntry ss) (IsWithin (length ss)) entry_within)
