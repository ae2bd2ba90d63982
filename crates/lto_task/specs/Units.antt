-- The text of a unit: of each piece a line with its name, the number of names that it refers to and the number of bytes of its text,
-- then a line for each of these names, and then the text.
use Rattle.std.specs.Prelude.{◌≡◌, ℕ, ◌<◌, ◌^◌, List, [], ◌∷◌, ◌++◌, All, codes, decimal, flat_map, length, map}
use Rattle.ir_tree.specs.Names.{AllBytes, quoted}
use Rattle.lto_task.specs.Pieces.{NamesRise}
use Rattle.lto_task.specs.declared.piece.Piece.{Piece}

-- a name as it stands in a module (LangRef, "Identifiers")
abbrev pub name_text : List ℕ → List ℕ
name_text name = 64 ∷ quoted name

abbrev pub name_line : List ℕ → List ℕ
name_line name = name_text name ++ 10 ∷ []

-- def @name refs bytes
abbrev pub head : List ℕ → ℕ → ℕ → List ℕ
head name refs bytes = codes "def " ++ (name_text name ++ (32 ∷ decimal refs ++ (32 ∷ decimal bytes)))

abbrev pub piece_text : Piece → List ℕ
piece_text p = head p.name (length p.refs) (length p.text) ++ (10 ∷ (flat_map name_line p.refs ++ p.text))

abbrev pub unit_text : List Piece → List ℕ
unit_text = flat_map piece_text

-- ---- units

-- what the text tells of a piece: its names are bytes, and its counts are below 2 ^ 64, as those of all slices are
pub record IsWritten (p : Piece) : Type 0 where
  pub name : AllBytes p.name
  pub refs : All AllBytes p.refs
  pub count : length p.refs < 2 ^ 64
  pub bytes : length p.text < 2 ^ 64

-- pieces in the order of their names, each name once, and so what each refers to
pub record IsUnit (pieces : List Piece) : Type 0 where
  pub each : All IsWritten pieces
  pub refs : All (λ p. NamesRise p.refs) pieces
  pub rise : NamesRise (map (λ p. p.name) pieces)

-- units with one text are one
abbrev pub UnitTextIsOne : Type 0
UnitTextIsOne = (ps qs : List Piece) → IsUnit ps → IsUnit qs → unit_text ps ≡ unit_text qs → ps ≡ qs
