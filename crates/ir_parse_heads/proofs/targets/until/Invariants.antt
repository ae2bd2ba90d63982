use Rattle.std.proofs.Common.{◌≡◌, ◌≤◌, ◌-◌, ◌++◌, length, take, drop}
use Rattle.ir_parse_heads.specs.Targets.{until}
use Rattle.ir_parse_heads.proofs.targets.until.Given as goal

abbrev pub invariant-each : goal.invariant-each
invariant-each l = (l.n ≤ length l.bytes) × (until l.separator l.bytes ≡ take l.n l.bytes ++ until l.separator (drop l.n l.bytes))

abbrev pub decreases-each : goal.decreases-each
decreases-each l = length l.bytes - l.n
