use Rattle.std.proofs.Common.{◌≡◌, ◌++◌, take}
use Rattle.importer.specs.Tables.{values}
use Rattle.link_one.specs.Units.{shown}
use Rattle.link_one.proofs.referable.push_shown.Given as goal

abbrev pub invariant-loop-global : goal.invariant-loop-global
invariant-loop-global l = l.names ≡ l.fn.names ++ shown (values (take l.global-index l.globals))
