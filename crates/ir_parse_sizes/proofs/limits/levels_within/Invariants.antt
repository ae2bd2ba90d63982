use Rattle.std.proofs.Common.{◌≡◌, ◌≤◌, Ok, drop, length}
use Rattle.ir_parse_names.specs.Stages.{levels_within}
use Rattle.ir_parse_sizes.proofs.limits.levels_within.Given as goal

abbrev pub invariant-each : goal.invariant-each
invariant-each l = record {
  passed : levels_within l.types (drop l.left l.levels) ≡ Ok tt;
  within : l.left ≤ length l.levels;
}

abbrev pub decreases-each : goal.decreases-each
decreases-each l = l.left
