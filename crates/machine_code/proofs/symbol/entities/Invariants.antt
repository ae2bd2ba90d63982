use Rattle.std.proofs.Common.{take}
use Rattle.std.specs.List.{AllZip}
use Rattle.machine_code.specs.Programs.{IsEntityFor}
use Rattle.machine_code.proofs.symbol.entities.Given as goal

abbrev pub invariant-loop-global : goal.invariant-loop-global
invariant-loop-global l = AllZip IsEntityFor (take l.global-index l.globals) l.all.items
