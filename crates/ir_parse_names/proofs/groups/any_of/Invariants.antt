use Rattle.std.proofs.Common.{◌≡◌, drop}
use Rattle.ir_parse_names.specs.Groups.{any_of}
use Rattle.ir_parse_names.proofs.groups.any_of.Given as goal

abbrev pub invariant-each : goal.invariant-each
invariant-each l = any_of l.names (drop l.name-index l.named) ≡ any_of l.names l.named
