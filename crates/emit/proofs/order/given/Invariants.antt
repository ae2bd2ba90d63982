use Rattle.std.proofs.Common.{◌≡◌, ◌++◌, drop}
use Rattle.std.specs.List.{flat_map}
use Rattle.emit.specs.Chosen.{unit_due, values}
use Rattle.emit.proofs.order.given.Given as goal

abbrev pub invariant-loop-unit : goal.invariant-loop-unit
invariant-loop-unit l = values l.chosen.items ++ flat_map (unit_due l.kept.keys l.group) (drop l.unit-index l.units) ≡ flat_map (unit_due l.kept.keys l.group) l.units
