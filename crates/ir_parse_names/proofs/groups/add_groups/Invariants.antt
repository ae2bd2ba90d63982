use Rattle.std.proofs.Common.{◌≡◌, drop}
use Rattle.ir_parse_names.specs.Groups.{with_groups}
use Rattle.ir_parse_names.proofs.groups.add_groups.Given as goal

abbrev pub invariant-each : goal.invariant-each
invariant-each l = with_groups l.found (drop l.item-index l.items) ≡ with_groups l.initial.found l.items
