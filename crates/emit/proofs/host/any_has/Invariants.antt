use Rattle.std.proofs.Common.{◌≡◌, drop}
use Rattle.emit.specs.Chosen.{any_has}
use Rattle.emit.proofs.host.any_has.Given as goal

abbrev pub invariant-loop-unit : goal.invariant-loop-unit
invariant-loop-unit l = any_has (drop l.unit-index l.units) l.name ≡ any_has l.units l.name
