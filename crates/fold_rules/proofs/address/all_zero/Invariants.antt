use Rattle.std.proofs.Common.{◌≡◌, drop}
use Rattle.ir_meaning.specs.Table.{all_zero}
use Rattle.fold_rules.proofs.address.all_zero.Given as goal

abbrev pub invariant-loop-index : goal.invariant-loop-index
invariant-loop-index l = all_zero (drop l.index-index l.indices) ≡ all_zero l.indices
