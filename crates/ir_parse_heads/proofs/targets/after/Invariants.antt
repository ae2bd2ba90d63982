use Rattle.std.proofs.Common.{◌≡◌, length}
use Rattle.ir_parse_heads.specs.Targets.{after}
use Rattle.ir_parse_heads.proofs.targets.after.Given as goal

abbrev pub invariant-each : goal.invariant-each
invariant-each l = after l.separator l.rest ≡ after l.separator l.bytes

abbrev pub decreases-each : goal.decreases-each
decreases-each l = length l.rest
