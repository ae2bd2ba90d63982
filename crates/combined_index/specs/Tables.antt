-- The tables that an index keeps beside what it says.
use Rattle.std.specs.Prelude.{◌≡◌, ℕ, List, [], Option, Some, None, find, flat_map, slice_get, slice_index_or, Vec}
use Rattle.std.specs.List.{position_from}
use Rattle.std.specs.Global.{Global}
use Rattle.std.specs.Map.{lookup}
use Rattle.std.specs.Str.{bytes_eq}
use Rattle.ir_tree.specs.declared.operand.Symbol.{Symbol}
use Rattle.combined_index.specs.Combined.{IsIndex, is_plain, prevails_for}
use Rattle.combined_index.specs.declared.definition.Definition.{Definition}
use Rattle.combined_index.specs.declared.places.DefinitionPlace.{DefinitionPlace}

-- ---- where definitions stand

abbrev pub found : List (List Definition) → DefinitionPlace → Option Definition
found modules p = slice_get (slice_index_or modules p.number []) p.index

-- a place is right for the definition that is looked for
abbrev pub IsFound : List (List Definition) → Option DefinitionPlace → Option Definition → Type 0
IsFound modules None wanted = wanted ≡ None
IsFound modules (Some p) wanted = (d : Definition) × (wanted ≡ Some d) × (found modules p ≡ Some d)

-- for each number the place is that of the first of these definitions which prevails for it
abbrev pub ArePlaced : List (List Definition) → List (Option DefinitionPlace) → List Definition → Type 0
ArePlaced modules places ds = (n : ℕ) → IsFound modules (slice_index_or places n None) (find (prevails_for n) ds)

-- ---- numbers by name

abbrev pub Plain : Type 0
Plain = List (Vec ℕ Global × ℕ)

abbrev pub looked_up : Plain → List ℕ → Option ℕ
looked_up plain name = lookup (λ key. bytes_eq name key.items) plain

abbrev pub ArePlain : List Symbol → Plain → Type 0
ArePlain symbols plain = (name : List ℕ) → looked_up plain name ≡ position_from (is_plain name) 0 symbols

-- ---- all of it

pub record IsIndexed (ss : List Symbol) (ms : List (List Definition)) (places : List (Option DefinitionPlace)) (plain : Plain) : Type 0 where
  pub index : IsIndex (record { symbols = ss; modules = ms })
  pub placed : ArePlaced ms places (flat_map (λ m. m) ms)
  pub by_name : ArePlain ss plain
