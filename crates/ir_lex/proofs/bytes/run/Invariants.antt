use Rattle.std.proofs.Common.{◌≡◌, ◌+◌, ◌-◌, ◌≤◌, drop, length}
use Rattle.ir_lex.specs.Bytes.{run}
use Rattle.ir_lex.proofs.bytes.run.Given as goal

abbrev pub invariant-each : goal.invariant-each
invariant-each l = record { so_far : run l.set l.bytes ≡ l.n + run l.set (drop l.n l.bytes); within : l.n ≤ length l.bytes }

abbrev pub decreases-each : goal.decreases-each
decreases-each l = length l.bytes - l.n
