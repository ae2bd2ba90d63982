-- What the summaries of a link say, module by module, each name taken to its symbol.
use Rattle.std.specs.Prelude.{ℕ, suc, Bool, false, ◌&&◌, ◌||◌, nat_eq, if◌then◌else◌, List, [], ◌∷◌, ◌++◌, map, filter, flat_map, Option, Some, None}
use Rattle.std.specs.List.{list_any}
use Rattle.std.specs.Str.{bytes_eq}
use Rattle.ir_tree.specs.declared.function.Linkage.{Linkage}
use Rattle.ir_tree.specs.Linkages.{defines, is_local}
use Rattle.ir_tree.specs.Once.{once_by, without_by}
use Rattle.ir_tree.specs.Symbols.{symbol_eq}
use Rattle.ir_tree.specs.declared.operand.Symbol.{Symbol}
use Rattle.ir_summary.specs.declared.summary.Summary.{Summary}
use Rattle.symbol_resolve.specs.Resolved.{Symbols, module_of}

-- a definition as the link sees it
pub record Entry : Type 0 where
  pub symbol : Symbol
  pub linkage : Linkage
  pub count : Option ℕ
  pub noinline : Bool
  pub optnone : Bool
  pub prevails : Bool
  pub calls : List Symbol
  pub refs : List Symbol

-- ---- symbols

-- a module defines the name for itself
abbrev pub is_own : List Summary → List ℕ → Bool
is_own summaries name = list_any (λ s. is_local s.linkage && bytes_eq name s.name) summaries

-- what a name stands for in the module of this number, whose own names these are
abbrev pub symbol_of : ℕ → (List ℕ → Bool) → List ℕ → Symbol
symbol_of k own name = record { home = if own name then Some k else None; name = name }

abbrev pub is_module : ℕ → Option ℕ → Bool
is_module k None = false
is_module k (Some other) = nat_eq other k

-- a definition in module k of this symbol: a local one prevails always, another where resolution names the module
abbrev pub prevails_at : Symbols → ℕ → Symbol → Bool
prevails_at table k s = is_module k s.home || is_module k (module_of table s.name)

-- ---- entries

abbrev pub entry_of : Symbols → ℕ → (List ℕ → Bool) → Summary → Entry
entry_of table k own s = record {
  symbol = symbol_of k own s.name;
  linkage = s.linkage;
  count = s.count;
  noinline = s.noinline;
  optnone = s.optnone;
  prevails = prevails_at table k (symbol_of k own s.name);
  calls = map (symbol_of k own) s.calls;
  refs = map (symbol_of k own) s.refs;
}

-- the entries of module k
abbrev pub entries : Symbols → ℕ → List Summary → List Entry
entries table k summaries = map (entry_of table k (is_own summaries)) (filter (λ s. defines s.linkage) summaries)

abbrev pub entries_from : Symbols → ℕ → List (List Summary) → List (List Entry)
entries_from table k [] = []
entries_from table k (m ∷ ms) = entries table k m ∷ entries_from table (suc k) ms

-- modules are numbered from 0 in command order
abbrev pub combined : Symbols → List (List Summary) → List (List Entry)
combined table ms = entries_from table 0 ms

-- ---- the symbols that stand in entries

abbrev pub stands_in : Entry → List Symbol
stands_in e = e.symbol ∷ (e.calls ++ e.refs)

abbrev pub stand_in : List (List Entry) → List Symbol
stand_in modules = flat_map (λ m. flat_map stands_in m) modules

-- the other symbols
abbrev pub without : Symbol → List Symbol → List Symbol
without = without_by symbol_eq

-- each symbol once, where it comes first
abbrev pub once : List Symbol → List Symbol
once = once_by symbol_eq
