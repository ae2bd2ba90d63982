use Rattle.std.proofs.Common.{◌≡◌, ◌+◌, ◌*◌, drop}
use Rattle.ir_parse_operands.specs.Extents.{all_nest_within}
use Rattle.ir_parse_parts.specs.Shapes.{parts_of}
use Rattle.ir_parse_operands.proofs.addressing.+levels.Given as goal

abbrev pub decreases-nests_within : goal.decreases-nests_within
decreases-nests_within a = 2 * a.most

abbrev pub decreases-all_nest_within : goal.decreases-all_nest_within
decreases-all_nest_within a = 2 * a.most + 1

abbrev pub invariant-all_nest_within-each : goal.invariant-all_nest_within-each
invariant-all_nest_within-each l = all_nest_within l.most (parts_of (drop l.part-index l.parts)) ≡ all_nest_within l.most (parts_of l.parts)
