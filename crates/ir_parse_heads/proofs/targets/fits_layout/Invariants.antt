use Rattle.std.proofs.Common.{◌≡◌, length}
use Rattle.ir_parse_heads.specs.Targets.{split_at, all_fit}
use Rattle.ir_parse_heads.proofs.targets.fits_layout.Given as goal

abbrev pub invariant-each : goal.invariant-each
invariant-each l = all_fit (split_at 45 l.rest) ≡ all_fit (split_at 45 l.text)

abbrev pub decreases-each : goal.decreases-each
decreases-each l = length l.rest
