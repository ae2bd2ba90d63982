use Rattle.std.proofs.Common.{ℕ, List, ap}
use Rattle.machine_code.proofs.key.Key.of.Goals as goal

pub returns : goal.returns
returns c = ap (λ (n : List ℕ). record { home = c.args.symbol.now.home; name = n }) c.as_slice.ensures
