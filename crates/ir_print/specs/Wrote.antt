-- What was written behind what stood there.
use Rattle.std.specs.Prelude.{◌≡◌, ℕ, List, ◌++◌}
use Rattle.ir_lex.specs.Pieces.{Piece, bytes_of}

pub record Wrote (ps : List Piece) (before after : List ℕ) : Type 0 where
  pub is : after ≡ before ++ bytes_of ps
