use Rattle.std.proofs.Common.{◌≡◌, ◌-◌, ℕ, length, drop}
use Rattle.block_trim.specs.Working.{name_in, naming}
use Rattle.block_trim.proofs.names.Names.of.Given as goal

abbrev pub invariant-loop-done : goal.invariant-loop-done
invariant-loop-done l = (n : ℕ) → name_in l.names n ≡ naming (drop (length l.joins - l.done) l.joins) n
