use Rattle.std.proofs.Common.{◌≡◌, take}
use Rattle.thinlto_main.proofs.modules.texts.Given as goal

abbrev pub invariant-loop-name : goal.invariant-loop-name
invariant-loop-name l = l.texts ≡ take l.name-index l.names
