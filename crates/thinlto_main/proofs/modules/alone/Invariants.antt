use Rattle.std.proofs.Common.{◌≡◌}
use Rattle.thinlto_main.proofs.modules.alone.Given as goal

abbrev pub invariant-loop-module : goal.invariant-loop-module
invariant-loop-module l = l.all ≡ l.yielded
