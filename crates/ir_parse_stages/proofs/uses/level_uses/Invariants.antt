use Rattle.std.proofs.Common.{◌≡◌, ◌≤◌, ◌++◌, drop, length}
use Rattle.ir_parse_names.specs.Marks.{level_uses}
use Rattle.ir_parse_stages.proofs.uses.level_uses.Given as goal

abbrev pub invariant-each : goal.invariant-each
invariant-each l = record {
  begun : l.marks ≡ l.fn.marks ++ level_uses (drop l.left l.levels);
  within : l.left ≤ length l.levels;
}

abbrev pub decreases-each : goal.decreases-each
decreases-each l = l.left
