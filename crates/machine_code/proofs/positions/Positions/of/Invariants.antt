use Rattle.std.proofs.Common.{◌≡◌, ℕ, ◌+◌, ◌≤◌, drop, length, nat_eq}
use Rattle.std.specs.HashMap as hash
use Rattle.std.specs.Option.{unwrap_or}
use Rattle.ir_interp.specs.Code.{position}
use Rattle.machine_code.proofs.positions.Positions.of.Given as goal

abbrev pub invariant-loop-position : goal.invariant-loop-position
invariant-loop-position l = record {
  within : l.position ≤ length l.blocks;
  placed : (n : ℕ) → unwrap_or (hash.get nat_eq l.by_number n) (length l.blocks) ≡ l.position + position (drop l.position l.blocks) n;
}

abbrev pub decreases-loop-position : goal.decreases-loop-position
decreases-loop-position l = l.position
