-- The pieces that stand in the linked module, as the code comes by them: by unit and by group, and the exported names.
use Rattle.std.specs.Prelude.{ℕ, Bool, ◌&&◌, not, if◌then◌else◌, List, [], ◌∷◌, map, flat_map}
use Rattle.std.specs.Borrow.{Bor}
use Rattle.std.specs.List.{list_any}
use Rattle.lto_task.specs.declared.piece.Piece.{Piece}
use Rattle.emit.specs.Graphs.{is_key}
use Rattle.emit.specs.Joins.{has_piece, is_function}
use Rattle.emit.specs.declared.order.Group.{Group}
use Rattle.emit.specs.declared.order.Group.TheVariants.{Functions, Variables}

-- borrowed pieces
abbrev pub values : List (Bor Piece) → List Piece
values = map (λ p. p.now)

abbrev pub is_of : Group → Piece → Bool
is_of Variables p = not (is_function p)
is_of Functions p = is_function p

-- the piece, where its name is one of the keys and it is of the group
abbrev pub due : List (Bor (List ℕ)) → Group → Piece → List Piece
due keys group p = if is_key keys p.name && is_of group p then p ∷ [] else []

abbrev pub unit_due : List (Bor (List ℕ)) → Group → List Piece → List Piece
unit_due keys group pieces = flat_map (due keys group) pieces

-- a piece of one of the units has the name
abbrev pub any_has : List (List Piece) → List ℕ → Bool
any_has units name = list_any (λ u. has_piece u name) units

abbrev pub line_due : List (Bor (List ℕ)) → List (List Piece) → List ℕ → List ℕ → List ℕ
line_due keys units name line = if is_key keys name && not (any_has units name) then line else []
