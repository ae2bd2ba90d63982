-- The linked module, of the global values of all modules: the kept ones, settled and in order (dead code stripping behind the back
-- ends: Johnson, Amini and Li, "ThinLTO: Scalable and Incremental LTO", CGO 2017).
use Rattle.std.specs.Prelude.{◌≡◌, ◌↔◌, ℕ, Bool, true, false, ◌&&◌, not, if◌then◌else◌, List, [], ◌∷◌, ◌++◌, map, filter, Contains}
use Rattle.std.specs.List.{list_any}
use Rattle.std.specs.Str.{bytes_eq}
use Rattle.ir_tree.specs.declared.function.Linkage.{Linkage}
use Rattle.ir_tree.specs.declared.function.Linkage.TheVariants.{External, Internal}
use Rattle.ir_tree.specs.declared.module.GlobalValue.{GlobalValue}
use Rattle.ir_tree.specs.declared.module.GlobalValue.TheVariants as global
use Rattle.ir_summary.specs.References.{global_names}
use Rattle.ir_meaning.specs.Programs.{symbol_of}
use Rattle.merge_meaning.specs.ByName.{IsInOrder, is_named}
use Rattle.merge_meaning.specs.Hosts.{getchar, putchar}

-- ---- what is kept

-- the least set that has the exported names and, with the name of a definition, those that it refers to
pub data IsKept (exports : List (List ℕ)) (hs : List GlobalValue) : List ℕ → Type 0 where
  exported : (name : List ℕ) → Contains exports name → IsKept exports hs name
  referred : (h : GlobalValue) (name : List ℕ) → Contains hs h → IsKept exports hs (symbol_of h).name → Contains (global_names h) name → IsKept exports hs name

-- ---- how it stands in the linked module

abbrev pub linkage_of : List (List ℕ) → List ℕ → Linkage
linkage_of exports name = if list_any (bytes_eq name) exports then External else Internal

-- others see a value where its name is exported (LangRef, "Linkage Types")
abbrev pub settled : List (List ℕ) → GlobalValue → GlobalValue
settled exports (global.Variable v) = global.Variable (record v { linkage = linkage_of exports v.symbol.name })
settled exports (global.Function f) = global.Function (record f { linkage = linkage_of exports f.symbol.name })

abbrev pub is_variable : GlobalValue → Bool
is_variable (global.Variable v) = true
is_variable (global.Function f) = false

-- ---- functions of the outside (ISO C, section 7.21.7)

-- this one, where its name is kept and no value has it
abbrev pub in_use : (List ℕ → Bool) → List GlobalValue → GlobalValue → List GlobalValue
in_use keeps hs g = if keeps (symbol_of g).name && not (is_named hs (symbol_of g).name) then g ∷ [] else []

abbrev pub outside_in_use : (List ℕ → Bool) → List GlobalValue → List GlobalValue
outside_in_use keeps hs = in_use keeps hs getchar ++ in_use keeps hs putchar

-- ---- the linked module

-- variables, functions of the outside that are in use, and functions
pub record IsEmission (exports : List (List ℕ)) (hs ks : List GlobalValue) : Type 0 where
  pub keeps : List ℕ → Bool
  pub kept : (name : List ℕ) → (keeps name ≡ true) ↔ IsKept exports hs name
  pub variables : List GlobalValue
  pub variables_are : IsInOrder (filter (λ h. keeps (symbol_of h).name && is_variable h) hs) variables
  pub functions : List GlobalValue
  pub functions_are : IsInOrder (filter (λ h. keeps (symbol_of h).name && not (is_variable h)) hs) functions
  pub is : ks ≡ map (settled exports) variables ++ (outside_in_use keeps hs ++ map (settled exports) functions)
