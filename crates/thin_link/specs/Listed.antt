-- The definitions that a report lists, and their order.
use Rattle.std.specs.Prelude.{ℕ, suc, Bool, List, [], ◌∷◌, ◌++◌, map, flat_map, find, option_to_list}
use Rattle.std.specs.Cmp.Lexicographic.{slice_cmp}
use Rattle.std.specs.List.Sorted.{IsPermutation, IsSorted, IsStable}
use Rattle.std.specs.Ordering.{nat_cmp, ordering_then}
use Rattle.std.specs.declared.cmp.Ordering.{Ordering}
use Rattle.ir_tree.specs.declared.operand.Symbol.{Symbol}
use Rattle.combined_index.specs.Combined.{Combined, prevails_for}
use Rattle.combined_index.specs.Indexed.{symbol_at}
use Rattle.combined_index.specs.declared.definition.Definition.{Definition}

-- a definition under its symbol's name, and the number of its module
pub record Listed : Type 0 where
  pub name : List ℕ
  pub home : ℕ
  pub definition : Definition

abbrev pub listed : List Symbol → ℕ → Definition → Listed
listed symbols k d = record { name = (symbol_at symbols d.symbol).name; home = k; definition = d }

abbrev pub all_listed : List Symbol → ℕ → List Definition → List Listed
all_listed symbols k ds = map (listed symbols k) ds

-- those of these modules, which are numbered from k
abbrev pub listed_from : List Symbol → ℕ → List (List Definition) → List Listed
listed_from symbols k [] = []
listed_from symbols k (m ∷ ms) = all_listed symbols k m ++ listed_from symbols (suc k) ms

-- a definition of the symbol that prevails
abbrev pub is_of : ℕ → Listed → Bool
is_of n e = prevails_for n e.definition

-- of these definitions the first that prevails for each of the symbols
abbrev pub all_first : List Listed → List ℕ → List Listed
all_first es ns = flat_map (λ n. option_to_list (find (is_of n) es)) ns

-- the definitions of these symbols that prevail
abbrev pub all_prevailing : Combined → List ℕ → List Listed
all_prevailing c ns = all_first (listed_from c.symbols 0 c.modules) ns

-- by name, in the order of bytes, and those of one name by module
abbrev pub listed_cmp : Listed → Listed → Ordering
listed_cmp a b = ordering_then (slice_cmp nat_cmp a.name b.name) (nat_cmp a.home b.home)

-- the same in this order; what this order doesn't tell apart stays as it stood
pub record IsInOrder (before after : List Listed) : Type 0 where
  pub same : IsPermutation before after
  pub sorted : IsSorted listed_cmp after
  pub stable : IsStable listed_cmp before after
