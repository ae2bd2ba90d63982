use Rattle.std.proofs.Common.{◌≡◌, drop}
use Rattle.ir_parse_names.proofs.Each.{in_front}
use Rattle.ir_parse.specs.Values.{values_in}
use Rattle.ir_parse.proofs.values.values_in.Given as goal

abbrev pub invariant-each : goal.invariant-each
invariant-each l = in_front l.values (values_in l.types l.groups (drop l.item-index l.items)) ≡ values_in l.types l.groups l.items
