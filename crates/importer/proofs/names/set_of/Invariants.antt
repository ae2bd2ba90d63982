use Rattle.std.proofs.Common.{◌≡◌, ◌||◌, ℕ, List, drop}
use Rattle.std.specs.List.{list_any}
use Rattle.std.specs.Str.{bytes_eq}
use Rattle.merge_meaning.specs.ByName.{has}
use Rattle.importer.proofs.names.set_of.Given as goal

abbrev pub invariant-loop-name : goal.invariant-loop-name
invariant-loop-name l = (name : List ℕ) → (has l.set name || list_any (bytes_eq name) (drop l.name-index l.names)) ≡ list_any (bytes_eq name) l.names
