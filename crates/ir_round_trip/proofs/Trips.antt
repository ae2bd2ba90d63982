-- Bytes that are read, printed and read again.
use Rattle.std.proofs.Common.{ℕ, suc, ◌<◌, List, [], ◌∷◌, get_or}
use Rattle.ir_tree.specs.Names.{AllBytes}

pub all_bytes : (bs : List ℕ) → ((i : ℕ) → get_or bs i 0 < 256) → AllBytes bs
all_bytes [] h = tt
all_bytes (b ∷ bs) h = (h 0, all_bytes bs (λ i. h (suc i)))
