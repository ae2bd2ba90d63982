-- What modules give, by a resolution's table in place of the modules, and by a link, if there is one.
use Rattle.std.specs.Prelude.{ℕ, suc, Bool, if◌then◌else◌, List, [], ◌∷◌, ◌++◌, map, filter, Option, Some, None}
use Rattle.ir_tree.specs.declared.module.GlobalValue.{GlobalValue}
use Rattle.ir_tree.specs.declared.module.Module.{Module}
use Rattle.ir_meaning.specs.Programs.{symbol_of}
use Rattle.symbol_resolve.specs.Resolved.{Symbols, module_of}
use Rattle.merge_meaning.specs.Globals.{global_under, named_by}
use Rattle.merge_meaning.specs.Merged.{prevails_as, standing_of, symbol_in}
use Rattle.merge_meaning.specs.Scopes.{given_where, named_where, names_by, symbol_for}
use Rattle.merge_meaning.specs.declared.lives.Link.{Link}
use Rattle.merge_meaning.specs.declared.scope.Scope.{Scope}

abbrev pub prevails_in : Symbols → ℕ → GlobalValue → Bool
prevails_in table k g = prevails_as (module_of table (symbol_of g).name) k (standing_of g)

-- ---- one after another

-- the global value is given
unfoldable pub gives : Symbols → Scope → GlobalValue → Bool
gives table scope g = given_where scope.link (prevails_in table scope.number g) (symbol_for scope (symbol_of g))

abbrev pub given_one : Symbols → Scope → GlobalValue → List GlobalValue
given_one table scope g = if gives table scope g then global_under (names_by scope) g ∷ [] else []

abbrev pub given_each : Symbols → Scope → List GlobalValue → List GlobalValue
given_each table scope [] = []
given_each table scope (g ∷ gs) = given_one table scope g ++ given_each table scope gs

-- ---- module by module

abbrev pub given_in : Symbols → Option Link → ℕ → List GlobalValue → List GlobalValue
given_in table link k gs =
    map (global_under (named_by (λ s. named_where link (symbol_in k gs s)))) (filter (λ g. given_where link (prevails_in table k g) (symbol_in k gs (symbol_of g))) gs)

-- for the merged program all are put together
abbrev pub merged_in : Symbols → ℕ → List Module → List GlobalValue
merged_in table k [] = []
merged_in table k (m ∷ ms) = given_in table None k m.globals ++ merged_in table (suc k) ms

-- for a link they are kept apart
abbrev pub parts_in : Symbols → Link → ℕ → List Module → List (List GlobalValue)
parts_in table link k [] = []
parts_in table link k (m ∷ ms) = given_in table (Some link) k m.globals ∷ parts_in table link (suc k) ms
