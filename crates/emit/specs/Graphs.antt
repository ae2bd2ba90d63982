-- References as a graph: a name has a number, which leads to the numbers of the names that its pieces refer to.
use Rattle.std.specs.Prelude.{◌≡◌, ℕ, Bool, false, ◌&&◌, ◌||◌, List, [], ◌∷◌, length, flat_map, Contains, Some, slice_get}
use Rattle.std.specs.Borrow.{Bor}
use Rattle.std.specs.List.{list_any}
use Rattle.std.specs.Str.{bytes_eq}
use Rattle.ir_tree.specs.Formed.{Distinct}
use Rattle.lto_task.specs.declared.piece.Piece.{Piece}
use Rattle.combined_index.specs.Rows.{row}
use Rattle.ir_summary.specs.Once.{texts}

-- ---- references

-- a piece of the first name refers to the second
abbrev pub Edge : Type 0
Edge = List ℕ × List ℕ

abbrev pub edge : List ℕ → List ℕ → List Edge
edge from to = (from, to) ∷ []

abbrev pub edges_of : Piece → List Edge
edges_of h = flat_map (edge h.name) h.refs

abbrev pub edges : List Piece → List Edge
edges hs = flat_map edges_of hs

-- ---- numbers

abbrev pub IsNumber : List (Bor (List ℕ)) → List ℕ → ℕ → Type 0
IsNumber keys name n = slice_get (texts keys) n ≡ Some name

-- the rows lead along these references and no others, and no name has two numbers
pub record Linked (es : List Edge) (keys : List (Bor (List ℕ))) (rows : List (List ℕ)) : Type 0 where
  pub long : length rows ≡ length keys
  pub once : Distinct (texts keys)
  pub sound : (n m : ℕ) → Contains (row rows n) m → (from to : List ℕ) × IsNumber keys from n × IsNumber keys to m × Contains es (from, to)
  pub complete : (from to : List ℕ) → Contains es (from, to) → (n m : ℕ) × IsNumber keys from n × IsNumber keys to m × Contains (row rows n) m

-- the graph of some pieces
pub record IsGraph (keys : List (Bor (List ℕ))) (rows : List (List ℕ)) : Type 0 where
  pub pieces : List Piece
  pub linked : Linked (edges pieces) keys rows

-- the numbers of the exported names
pub record AreStarts (keys : List (Bor (List ℕ))) (exports : List (List ℕ)) (starts : List ℕ) : Type 0 where
  pub sound : (n : ℕ) → Contains starts n → (name : List ℕ) × Contains exports name × IsNumber keys name n
  pub complete : (name : List ℕ) → Contains exports name → (n : ℕ) × Contains starts n × IsNumber keys name n

-- ---- names that are marked

abbrev pub is_key : List (Bor (List ℕ)) → List ℕ → Bool
is_key keys name = list_any (λ key. bytes_eq name key.now) keys

abbrev pub is_marked : List (Bor (List ℕ)) → List Bool → List ℕ → Bool
is_marked [] marks name = false
is_marked (key ∷ keys) [] name = false
is_marked (key ∷ keys) (mark ∷ marks) name = (mark && bytes_eq name key.now) || is_marked keys marks name
