use Rattle.std.proofs.Common.{length}
use Rattle.machine_code.proofs.root.+are_integers.Given as goal

abbrev pub decreases-are_integers : goal.decreases-are_integers
decreases-are_integers l = length l.regs.now
