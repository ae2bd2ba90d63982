use Rattle.std.proofs.Common.{subst}
use Rattle.ir_machine.specs.Marks.{HasWidth}
use Rattle.ir_interp.proofs.address.index_of.Goals as goal

pub widen-requires-clause-some : goal.widen-requires-clause-some
widen-requires-clause-some c = (subst HasWidth c.in-Int.is c.requires.width).0

pub widen-requires-clause-wider : goal.widen-requires-clause-wider
widen-requires-clause-wider c = (subst HasWidth c.in-Int.is c.requires.width).1
