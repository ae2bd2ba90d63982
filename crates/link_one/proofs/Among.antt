-- What is kept of the pieces of parts, place by place.
use Rattle.std.proofs.Common.{◌≡◌, ◌+◌, ℕ, zero, suc, List, [], ◌∷◌, Option, Some, length, refl, subst, arith}
use Rattle.std.specs.Prelude.{slice_get, slice_index_or}
use Rattle.std.specs.List.{AllZip}
use Rattle.ir_tree.specs.declared.function.Function.{Function}
use Rattle.lto_task.specs.declared.piece.Piece.{Piece}
use Rattle.ir_tree.specs.declared.module.GlobalValue.{GlobalValue}
use Rattle.ir_tree.specs.declared.operand.Symbol.{Symbol}
use Rattle.link_one.specs.Linked.{AreCompiled, IsLinkedGlobal, bodies_for}
use Rattle.emit.specs.Strips.{IsStripped, ModulePieces}
use Rattle.link_one.specs.Units.{IsLinkedPiece, IsSettledPiece}
use Rattle.link_one.proofs.Printed.{AreAllPrinted, ArePrinted, offers}

-- what is compiled, and what is kept of its pieces, place by place
module _ (exports : List (List ℕ)) (limit : ℕ) (all : List GlobalValue) (symbols : List Symbol) (suffixes : List (List ℕ)) (imports promoted : List (List ℕ)) where
  abbrev bodies_at : ℕ → List GlobalValue → List ℕ → Option Function
  bodies_at k part = bodies_for limit all symbols suffixes (slice_index_or imports k []) part

  abbrev offers_at : ℕ → List GlobalValue → List (List ℕ)
  offers_at k part = offers symbols suffixes (slice_index_or promoted k []) part

  abbrev pub IsCompiled : ℕ → List GlobalValue → List Piece → Type 0
  IsCompiled k part kept = (pieces : List Piece) × AllZip (IsLinkedPiece (bodies_at k part) exports) part pieces × IsStripped (record { offers = offers_at k part; pieces = pieces }) kept

  -- what each piece is of
  one : (bodies : List ℕ → Option Function) (part : List GlobalValue) (pieces : List Piece) → AllZip (IsLinkedPiece bodies exports) part pieces
      → (unit : List GlobalValue) × AllZip (IsLinkedGlobal bodies) part unit × AllZip (IsSettledPiece exports) unit pieces
  one bodies [] [] z = ([], tt, tt)
  one bodies [] (p ∷ pieces) z = absurd z
  one bodies (g ∷ part) [] z = absurd z
  one bodies (g ∷ part) (p ∷ pieces) z =
      let rest = one bodies part pieces z.1 in
      (z.0.value ∷ rest.0, (z.0.made, rest.1), (z.0.piece, rest.2))

  abbrev Printed : ℕ → List (List GlobalValue) → List (List Piece) → Type 0
  Printed k parts kept =
      (units : List (List GlobalValue)) × (us : List ModulePieces) × AreCompiled limit all symbols suffixes imports k parts units × AreAllPrinted exports symbols suffixes promoted k parts units us × AllZip IsStripped us kept

  placed : (k : ℕ) (parts : List (List GlobalValue)) (kept : List (List Piece)) → length kept ≡ length parts
      → ((i j : ℕ) (part : List GlobalValue) (unit : List Piece) → j ≡ i + k → slice_get parts i ≡ Some part → slice_get kept i ≡ Some unit → IsCompiled j part unit)
      → Printed k parts kept
  placed k [] [] same each = ([], [], tt, tt, tt)
  placed k [] (unit ∷ kept) same each = absurd (omega (arith, same))
  placed k (part ∷ parts) [] same each = absurd (omega (arith, same))
  placed k (part ∷ parts) (unit ∷ kept) same each =
      let count : length kept ≡ length parts = omega (arith, same) in
      let here = each 0 k part unit (omega arith) refl refl in
      let made = one (bodies_at k part) part here.0 here.1 in
      let rest = placed (suc k) parts kept count (λ i j p u e at is. each (suc i) j p u (omega (arith, e)) at is) in
      (made.0 ∷ rest.0, record { offers = offers_at k part; pieces = here.0 } ∷ rest.1, (made.1, rest.2), (record { offers_are = refl; pieces_are = made.2 }, rest.3), (here.2, rest.4))

  compiled : (parts : List (List GlobalValue)) (kept : List (List Piece)) → length kept ≡ length parts
      → ((i : ℕ) (unit : List Piece) → slice_get kept i ≡ Some unit → IsCompiled i (slice_index_or parts i []) unit) → Printed 0 parts kept
  compiled parts kept same each =
      placed 0 parts kept same
      (λ i j p u e at is.
      let here : i ≡ j = omega (arith, e) in
      subst (λ (m : ℕ). IsCompiled m p u) here (subst (λ (q : List GlobalValue). IsCompiled i q u) (there parts i p at) (each i u is)))
    where
      there : (parts : List (List GlobalValue)) (i : ℕ) (part : List GlobalValue) → slice_get parts i ≡ Some part → slice_index_or parts i [] ≡ part
      there [] i part e = absurd (cc e)
      there (p ∷ parts) zero part e = cc e
      there (p ∷ parts) (suc i) part e = there parts i part e

  pub printed_of : (parts : List (List GlobalValue)) (kept : List (List Piece)) → length kept ≡ length parts
      → ((i : ℕ) (unit : List Piece) → slice_get kept i ≡ Some unit → IsCompiled i (slice_index_or parts i []) unit) → ArePrinted exports limit all symbols suffixes imports promoted parts kept
  printed_of parts kept same each =
      let made = compiled parts kept same each in
      record { units = made.0; compiled = made.2; printed = made.1; printed_are = made.3; stripped = made.4 }
