-- What is reached in a graph: the least set that has the starts and, with a number, those of its row.
use Rattle.std.specs.Prelude.{ℕ, List, Contains}

pub data IsReached (IsStart : ℕ → Type 0) (row : ℕ → List ℕ) : ℕ → Type 0 where
  starts : (n : ℕ) → IsStart n → IsReached IsStart row n
  leads : (m n : ℕ) → IsReached IsStart row m → Contains (row m) n → IsReached IsStart row n
