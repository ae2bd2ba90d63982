use Rattle.std.proofs.Common.{◌≡◌, ℕ, length}
use Rattle.dead_code.specs.Lists.{list_in}
use Rattle.dead_code.proofs.lists.Lists.reach.Given as goal

abbrev pub invariant-loop : goal.invariant-loop
invariant-loop l = record { long : length l.self.rows.items ≡ l.counter; kept : (n : ℕ) → list_in l.self n ≡ list_in l.fn.self n }
