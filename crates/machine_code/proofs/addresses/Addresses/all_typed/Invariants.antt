use Rattle.std.proofs.Common.{take}
use Rattle.std.specs.List.{AllZip}
use Rattle.machine_code.specs.Sources.{IsTyped}
use Rattle.machine_code.proofs.addresses.Addresses.all_typed.Given as goal

abbrev pub invariant-loop-argument : goal.invariant-loop-argument
invariant-loop-argument l = AllZip (IsTyped l.self) (take l.argument-index l.arguments) l.all.items
