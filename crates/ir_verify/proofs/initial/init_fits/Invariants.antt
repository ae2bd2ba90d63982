use Rattle.std.specs.Prelude.{◌↔◌, drop, reverse}
use Rattle.ir_tree.specs.Fits.{Fits}
use Rattle.ir_tree.specs.Initials.{levels}
use Rattle.ir_verify.specs.Wants.{AllFill}
use Rattle.ir_verify.proofs.initial.init_fits.Given as goal

abbrev pub invariant-each : goal.invariant-each
invariant-each l = Fits l.shape l.init ↔ AllFill (reverse l.wants.items) (levels (drop l.part-index l.parts))
