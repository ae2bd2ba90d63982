use Rattle.std.proofs.Common.{◌≡◌, drop}
use Rattle.ir_tree.specs.Names.{closes}
use Rattle.ir_tree.proofs.name.closes.Given as goal

abbrev pub invariant-loop-i : goal.invariant-loop-i
invariant-loop-i l = closes (drop l.i l.bytes) ≡ closes l.bytes
