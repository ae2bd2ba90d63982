use Rattle.std.proofs.Common.{take}
use Rattle.std.specs.List.{AllZip}
use Rattle.machine_code.specs.Programs.{IsBodyFor}
use Rattle.machine_code.proofs.addresses.Addresses.bodies.Given as goal

abbrev pub invariant-loop-global : goal.invariant-loop-global
invariant-loop-global l = AllZip (IsBodyFor l.self) (take l.global-index l.globals) l.all.items
