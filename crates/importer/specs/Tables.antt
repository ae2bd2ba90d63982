-- The table by which imported values are found, and lists of borrowed values.
use Rattle.std.specs.Prelude.{ℕ, List, [], ◌∷◌, if◌then◌else◌, is_some, map, Option, Some, None, option_map}
use Rattle.std.specs.Borrow.{Bor}
use Rattle.std.specs.HashMap.{HashMap, get_by}
use Rattle.std.specs.Str.{bytes_eq}
use Rattle.ir_tree.specs.declared.module.GlobalValue.{GlobalValue}
use Rattle.importer.specs.Tasks.{declared_as}

-- the value that the table has under a name
abbrev pub value_in : {S : Type 0} → HashMap (Bor (List ℕ)) (Bor GlobalValue) S → List ℕ → Option GlobalValue
value_in table name = option_map (λ g. g.now) (get_by (λ key. bytes_eq name key.now) table)

abbrev pub values : List (Bor GlobalValue) → List GlobalValue
values = map (λ g. g.now)

abbrev pub option_list : {X : Type 0} → Option X → List X
option_list None = []
option_list (Some x) = x ∷ []

-- what has the name as it is declared, where the values that are found by their names have none of it
abbrev pub lacked_as : List GlobalValue → (List ℕ → Option GlobalValue) → List ℕ → Option GlobalValue
lacked_as all own name = if is_some (own name) then None else declared_as all name
