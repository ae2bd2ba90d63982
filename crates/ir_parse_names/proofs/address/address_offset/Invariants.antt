use Rattle.std.proofs.Common.{◌≡◌, drop}
use Rattle.ir_parse_names.specs.Addresses.{offset_behind}
use Rattle.ir_parse_names.proofs.address.address_offset.Given as goal

abbrev pub invariant-each : goal.invariant-each
invariant-each l = offset_behind l.offset l.types (drop l.level-index l.levels) ≡ offset_behind 0 l.types l.levels
