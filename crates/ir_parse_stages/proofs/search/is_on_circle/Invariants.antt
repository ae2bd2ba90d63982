use Rattle.std.proofs.Common.{length, ◌-◌}
use Rattle.ir_parse_stages.specs.Searching.{IsSearch}
use Rattle.ir_parse_stages.proofs.search.is_on_circle.Given as goal

abbrev pub invariant-each : goal.invariant-each
invariant-each l = IsSearch l.graph l.start l.search.found.items l.search.seen.items l.head

abbrev pub decreases-each : goal.decreases-each
decreases-each l = length l.graph - l.head
