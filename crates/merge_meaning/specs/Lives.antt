-- What a thin link keeps of the merged program, and under which names (Johnson, Amini and Li, "ThinLTO: Scalable and Incremental
-- LTO", CGO 2017, on dead stripping, promotion and renaming).
use Rattle.std.specs.Prelude.{ℕ, suc, Bool, false, ◌&&◌, ◌||◌, List, [], ◌∷◌, ◌++◌, if◌then◌else◌, map, filter, None, codes}
use Rattle.std.specs.List.{list_any}
use Rattle.ir_tree.specs.Symbols.{symbol_eq}
use Rattle.ir_tree.specs.declared.module.GlobalValue.{GlobalValue}
use Rattle.ir_tree.specs.declared.module.Module.{Module}
use Rattle.ir_tree.specs.declared.operand.Symbol.{Symbol}
use Rattle.ir_meaning.specs.Refine.{Naming}
use Rattle.ir_meaning.specs.Programs.{is_declared, shared, symbol_of}
use Rattle.combined_index.specs.Finals.{final_name}
use Rattle.merge_meaning.specs.Globals.{global_under, named_by}
use Rattle.merge_meaning.specs.Linked.{back_names, emission}
use Rattle.merge_meaning.specs.Merged.{declaration, merged_from, merged_globals, prevails, symbol_in}

-- a symbol of these whose mark is set
abbrev pub is_live : List Symbol → List Bool → Symbol → Bool
is_live [] live s = false
is_live (t ∷ symbols) [] s = false
is_live (t ∷ symbols) (mark ∷ live) s = (mark && symbol_eq t s) || is_live symbols live s

-- the symbol in the linked module, in which none has a home
abbrev pub final_symbol : List (List ℕ) → Symbol → Symbol
final_symbol suffixes s = record { home = None; name = final_name suffixes s }

-- the symbol has one of the exported names
abbrev pub is_export : List (List ℕ) → Symbol → Bool
is_export exports s = list_any (λ name. symbol_eq (record { home = None; name = name }) s) exports

-- ---- the live definitions

-- those of the merged program, each under its final name
abbrev pub live_globals : List Module → List Symbol → List Bool → List (List ℕ) → List GlobalValue
live_globals ms symbols live suffixes = emission (is_live symbols live) (final_symbol suffixes) (merged_globals ms)

-- which symbols and variables of the merged program these are
abbrev pub live_names : List Module → List Symbol → List Bool → List (List ℕ) → Naming
live_names ms symbols live suffixes =
    back_names (is_live symbols live) (final_symbol suffixes) (merged_globals ms) (live_globals ms symbols live suffixes)

-- ---- by module

-- the part of module k: those of its definitions that prevail and are live, with each name that the module uses taken to the final
-- name of the symbol that it stands for
abbrev pub part_of : List Module → List Symbol → List Bool → List (List ℕ) → ℕ → List GlobalValue → List GlobalValue
part_of ms symbols live suffixes k gs =
    map (global_under (named_by (λ s. final_symbol suffixes (symbol_in k gs s)))) (filter (λ g. prevails ms k g && is_live symbols live (symbol_in k gs (symbol_of g))) gs)

-- the parts of the modules from number k on, in command order
abbrev pub parts_from : List Module → List Symbol → List Bool → List (List ℕ) → ℕ → List Module → List (List GlobalValue)
parts_from ms symbols live suffixes k [] = []
parts_from ms symbols live suffixes k (m ∷ rest) = part_of ms symbols live suffixes k m.globals ∷ parts_from ms symbols live suffixes (suc k) rest

abbrev pub parts : List Module → List Symbol → List Bool → List (List ℕ) → List (List GlobalValue)
parts ms symbols live suffixes = parts_from ms symbols live suffixes 0 ms

-- the functions of the outside that no module defines, declared
abbrev pub outside : List GlobalValue → List GlobalValue
outside gs =
    (if is_declared gs (shared (codes "putchar")) then [] else declaration (codes "putchar") ∷ [])
    ++ (if is_declared gs (shared (codes "getchar")) then [] else declaration (codes "getchar") ∷ [])

-- those that are live
abbrev pub live_outside : List Module → List Symbol → List Bool → List (List ℕ) → List GlobalValue
live_outside ms symbols live suffixes = emission (is_live symbols live) (final_symbol suffixes) (outside (merged_from ms 0 ms))
