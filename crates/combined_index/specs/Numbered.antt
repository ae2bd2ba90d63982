-- Symbols that get numbers as they come.
use Rattle.std.specs.Prelude.{◌≡◌, ℕ, Bool, if◌then◌else◌, List, [], ◌∷◌, ◌++◌, map, flat_map, fold, Some, slice_get}
use Rattle.std.specs.Borrow.{Bor}
use Rattle.std.specs.List.{list_any}
use Rattle.std.specs.Str.{bytes_eq}
use Rattle.ir_tree.specs.declared.operand.Symbol.{Symbol}
use Rattle.combined_index.specs.Entries.{Entry, stands_in}
use Rattle.ir_tree.specs.Symbols.{symbol_eq}
use Rattle.combined_index.specs.declared.definition.Definition.{Definition}
use Rattle.combined_index.specs.declared.key.Key.{Key}

-- the symbols of keys
abbrev pub symbol : Key → Symbol
symbol k = record { home = k.home; name = k.name.now }

abbrev pub symbols : List Key → List Symbol
symbols = map symbol

-- one more symbol, behind the others where it isn't there
abbrev pub noted : List Symbol → Symbol → List Symbol
noted ss s = if list_any (symbol_eq s) ss then ss else ss ++ s ∷ []

abbrev pub all_noted : List Symbol → List Symbol → List Symbol
all_noted ss more = fold noted ss more

-- a relation holds at each place of two lists, which are as long
abbrev pub Each : {X Y : Type 0} → (X → Y → Type 0) → List X → List Y → Type 0
Each R [] [] = Unit {0}
Each R (x ∷ xs) (y ∷ ys) = R x y × Each R xs ys
Each R [] (y ∷ ys) = ⊥
Each R (x ∷ xs) [] = ⊥

-- x was numbered as y: the symbols that stand in x were noted, and y names x by them
pub record Numbers {X Y : Type 0} (stand : X → List Symbol) (Names : List Symbol → X → Y → Type 0) (old : List Symbol) (x : X) (new : List Symbol) (y : Y) : Type 0 where
  pub grown : new ≡ all_noted old (stand x)
  pub named : Names new x y

-- ---- what is numbered

abbrev pub NamesSymbol : List Symbol → Symbol → ℕ → Type 0
NamesSymbol ss s n = slice_get ss n ≡ Some s

abbrev pub NamesSymbols : List Symbol → List Symbol → List ℕ → Type 0
NamesSymbols ss = Each (NamesSymbol ss)

pub record NamesEntry (ss : List Symbol) (e : Entry) (d : Definition) : Type 0 where
  pub symbol : NamesSymbol ss e.symbol d.symbol
  pub linkage : d.linkage ≡ e.linkage
  pub count : d.count ≡ e.count
  pub noinline : d.noinline ≡ e.noinline
  pub optnone : d.optnone ≡ e.optnone
  pub prevails : d.prevails ≡ e.prevails
  pub calls : NamesSymbols ss e.calls d.calls
  pub refs : NamesSymbols ss e.refs d.refs

abbrev pub NamesEntries : List Symbol → List Entry → List Definition → Type 0
NamesEntries ss = Each (NamesEntry ss)

abbrev pub NamesModules : List Symbol → List (List Entry) → List (List Definition) → Type 0
NamesModules ss = Each (NamesEntries ss)

abbrev pub NumbersSymbol : List Symbol → Symbol → List Symbol → ℕ → Type 0
NumbersSymbol = Numbers (λ s. s ∷ []) NamesSymbol

abbrev pub NumbersSymbols : List Symbol → List Symbol → List Symbol → List ℕ → Type 0
NumbersSymbols = Numbers (λ ss. flat_map (λ s. s ∷ []) ss) NamesSymbols

abbrev pub NumbersEntry : List Symbol → Entry → List Symbol → Definition → Type 0
NumbersEntry = Numbers stands_in NamesEntry

abbrev pub NumbersEntries : List Symbol → List Entry → List Symbol → List Definition → Type 0
NumbersEntries = Numbers (λ es. flat_map stands_in es) NamesEntries

abbrev pub NumbersModules : List Symbol → List (List Entry) → List Symbol → List (List Definition) → Type 0
NumbersModules = Numbers (λ ms. flat_map (λ es. flat_map stands_in es) ms) NamesModules

-- ---- a module's own names, as they are kept

abbrev pub is_kept : List (Bor (List ℕ)) → List ℕ → Bool
is_kept keys name = list_any (λ key. bytes_eq name key.now) keys
