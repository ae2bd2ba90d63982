use Rattle.std.proofs.Common.{take}
use Rattle.std.specs.List.{AllZip}
use Rattle.thinlto_main.specs.Modules.{IsRead}
use Rattle.thinlto_main.proofs.modules.read_all.Given as goal

abbrev pub invariant-loop-at : goal.invariant-loop-at
invariant-loop-at l = AllZip IsRead (take l.at l.given) l.modules
