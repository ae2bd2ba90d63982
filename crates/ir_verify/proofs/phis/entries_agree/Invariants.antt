use Rattle.std.specs.Prelude.{nat_eq}
use Rattle.std.specs.HashMap as map
use Rattle.ir_verify.proofs.Firsts.{Firsts}
use Rattle.ir_verify.proofs.phis.entries_agree.Given as goal

abbrev pub invariant-loop-number : goal.invariant-loop-number
invariant-loop-number l = Firsts (map.get nat_eq l.first) l.entries l.number
