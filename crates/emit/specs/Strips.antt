-- What a unit keeps of its pieces: those to which others may refer, and what these lead to (dead code stripping within a module, as by
-- LLVM's "globaldce").
use Rattle.std.specs.Prelude.{◌≡◌, ◌↔◌, ◌⊎◌, ℕ, Bool, true, if◌then◌else◌, List, [], ◌∷◌, filter, flat_map, map, Contains, slice_get, Some}
use Rattle.std.specs.List.{AllZip}
use Rattle.lto_task.specs.declared.piece.Piece.{Piece}
use Rattle.emit.specs.Joins.{IsJoin, IsUsed}

-- the pieces of a module, and the names of those to which others may refer
pub record ModulePieces : Type 0 where
  pub offers : List (List ℕ)
  pub pieces : List Piece

-- in their order those are kept that are reached from the names by what pieces refer to
pub record IsStripped (u : ModulePieces) (kept : List Piece) : Type 0 where
  pub keeps : List ℕ → Bool
  pub reached : (name : List ℕ) → (keeps name ≡ true) ↔ IsUsed u.offers u.pieces name
  pub is : kept ≡ filter (λ p. keeps p.name) u.pieces

-- a piece that is exported, or to which another unit refers, is one that its unit offers
pub record OfferEnough (exports : List (List ℕ)) (units : List ModulePieces) : Type 0 where
  pub exported : (u : ModulePieces) (p : Piece) → Contains units u → Contains u.pieces p → Contains exports p.name → Contains u.offers p.name
  pub referred : (i k : ℕ) (u v : ModulePieces) (p q : Piece) → slice_get units i ≡ Some u → slice_get units k ≡ Some v →
      Contains u.pieces p → Contains v.pieces q → Contains p.refs q.name → (i ≡ k) ⊎ Contains v.offers q.name

-- so what is joined of all that units keep is joined of all their pieces
abbrev pub StrippedIsJoin : Type 0
StrippedIsJoin =
    (exports : List (List ℕ)) (units : List ModulePieces) (kept : List (List Piece)) (header text : List ℕ) → OfferEnough exports units → AllZip IsStripped units kept
    → IsJoin exports (flat_map (λ ps. ps) kept) header text → IsJoin exports (flat_map (λ u. u.pieces) units) header text

-- ---- by marks

-- the pieces whose marks are set
abbrev pub chosen : List Piece → List Bool → List Piece
chosen [] marks = []
chosen (p ∷ pieces) [] = []
chosen (p ∷ pieces) (mark ∷ marks) = if mark then p ∷ chosen pieces marks else chosen pieces marks

-- a mark for each piece: whether it is kept
pub record AreMarks (u : ModulePieces) (marks : List Bool) : Type 0 where
  pub keeps : List ℕ → Bool
  pub reached : (name : List ℕ) → (keeps name ≡ true) ↔ IsUsed u.offers u.pieces name
  pub are : marks ≡ map (λ p. keeps p.name) u.pieces
