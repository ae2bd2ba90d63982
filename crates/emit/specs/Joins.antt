-- The text of the linked module, of the pieces of all modules: target lines, variables, functions of the outside that are in use,
-- and functions (LangRef, "Module Structure").
use Rattle.std.specs.Prelude.{◌≡◌, ◌↔◌, ℕ, Bool, true, ◌&&◌, not, nat_eq, if◌then◌else◌, List, [], ◌++◌, filter, flat_map, Contains, codes}
use Rattle.std.specs.Cmp.Lexicographic.{slice_cmp}
use Rattle.std.specs.List.{list_any, starts_with}
use Rattle.std.specs.List.Sorted.{IsPermutation, IsSorted, IsStable}
use Rattle.std.specs.Ordering.{nat_cmp}
use Rattle.std.specs.Str.{bytes_eq}
use Rattle.std.specs.declared.cmp.Ordering.{Ordering}
use Rattle.lto_task.specs.declared.piece.Piece.{Piece}

-- ---- what is kept

-- the least set that has the exported names and, with the name of a piece, those that the piece refers to
pub data IsUsed (exports : List (List ℕ)) (pieces : List Piece) : List ℕ → Type 0 where
  asked : (name : List ℕ) → Contains exports name → IsUsed exports pieces name
  referred_by : (p : Piece) (name : List ℕ) → Contains pieces p → IsUsed exports pieces p.name → Contains p.refs name → IsUsed exports pieces name

-- ---- functions and variables

-- the text of a function begins so, and that of a variable with its name
abbrev pub is_function : Piece → Bool
is_function p = starts_with nat_eq p.text (codes "define ")

abbrev pub piece_cmp : Piece → Piece → Ordering
piece_cmp p q = slice_cmp nat_cmp p.name q.name

-- the same pieces by name, in the order of bytes; those of one name stay as they stood
pub record IsInNameOrder (before after : List Piece) : Type 0 where
  pub same : IsPermutation before after
  pub sorted : IsSorted piece_cmp after
  pub stable : IsStable piece_cmp before after

abbrev pub lines_of : List Piece → List ℕ
lines_of pieces = flat_map (λ p. p.text) pieces

-- ---- functions of the outside (ISO C, section 7.21.7)

abbrev pub getchar_line : List ℕ
getchar_line = codes "declare i32 @getchar()\n"

abbrev pub putchar_line : List ℕ
putchar_line = codes "declare i32 @putchar(i32)\n"

abbrev pub has_piece : List Piece → List ℕ → Bool
has_piece pieces name = list_any (λ p. bytes_eq p.name name) pieces

-- the line of this one, where its name is kept and no piece has it
abbrev pub line_in_use : (List ℕ → Bool) → List Piece → List ℕ → List ℕ → List ℕ
line_in_use keeps pieces name line = if keeps name && not (has_piece pieces name) then line else []

abbrev pub host_lines : (List ℕ → Bool) → List Piece → List ℕ
host_lines keeps pieces = line_in_use keeps pieces (codes "getchar") getchar_line ++ line_in_use keeps pieces (codes "putchar") putchar_line

-- ---- the linked module

-- behind the target lines stand the kept pieces, and no other ones
pub record IsJoin (exports : List (List ℕ)) (pieces : List Piece) (header text : List ℕ) : Type 0 where
  pub keeps : List ℕ → Bool
  pub kept : (name : List ℕ) → (keeps name ≡ true) ↔ IsUsed exports pieces name
  pub variables : List Piece
  pub variables_are : IsInNameOrder (filter (λ p. keeps p.name && not (is_function p)) pieces) variables
  pub functions : List Piece
  pub functions_are : IsInNameOrder (filter (λ p. keeps p.name && is_function p) pieces) functions
  pub is : text ≡ header ++ (lines_of variables ++ (host_lines keeps pieces ++ lines_of functions))
