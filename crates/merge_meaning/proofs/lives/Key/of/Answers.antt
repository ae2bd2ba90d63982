use Rattle.std.proofs.Common.{ℕ, List, ap}
use Rattle.merge_meaning.proofs.lives.Key.of.Goals as goal

pub returns : goal.returns
returns c = ap (λ (n : List ℕ). record { home = c.args.symbol.now.home; name = n }) c.as_slice.ensures
