-- Names of a set and of global values, and global values by name.
use Rattle.std.specs.Prelude.{ℕ, Bool, List}
use Rattle.std.specs.Borrow.{Bor}
use Rattle.std.specs.Cmp.Lexicographic.{slice_cmp}
use Rattle.std.specs.HashSet.{HashSet, contains_by}
use Rattle.std.specs.List.{list_any}
use Rattle.std.specs.List.Sorted.{IsPermutation, IsSorted, IsStable}
use Rattle.std.specs.Ordering.{nat_cmp}
use Rattle.std.specs.Str.{bytes_eq}
use Rattle.std.specs.declared.cmp.Ordering.{Ordering}
use Rattle.ir_tree.specs.declared.module.GlobalValue.{GlobalValue}
use Rattle.ir_meaning.specs.Programs.{symbol_of}

-- the name is one of the set
abbrev pub has : {S : Type 0} → HashSet (Bor (List ℕ)) S → List ℕ → Bool
has set name = contains_by (λ key. bytes_eq name key.now) set

abbrev pub is_named : List GlobalValue → List ℕ → Bool
is_named hs name = list_any (λ h. bytes_eq (symbol_of h).name name) hs

abbrev pub name_cmp : GlobalValue → GlobalValue → Ordering
name_cmp g h = slice_cmp nat_cmp (symbol_of g).name (symbol_of h).name

-- the same values by name, in the order of bytes; those of one name stay as they stood
pub record IsInOrder (before after : List GlobalValue) : Type 0 where
  pub same : IsPermutation before after
  pub sorted : IsSorted name_cmp after
  pub stable : IsStable name_cmp before after
