-- A report on its way: lines that are added to what stands.
use Rattle.std.specs.Prelude.{◌≡◌, ℕ, List, ◌++◌, map}
use Rattle.thin_link.specs.Lines.{text_of}
use Rattle.thin_link.specs.Listed.{IsInOrder, Listed}

-- behind what stood stand the lines of these definitions, in their order
pub record AddsLines (line : Listed → List ℕ) (before : List Listed) (old new : List ℕ) : Type 0 where
  pub order : List Listed
  pub sorted : IsInOrder before order
  pub added : new ≡ old ++ text_of (map line order)
