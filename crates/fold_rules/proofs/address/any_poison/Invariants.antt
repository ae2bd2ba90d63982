use Rattle.std.proofs.Common.{◌≡◌, drop}
use Rattle.ir_meaning.specs.Table.{any_poison}
use Rattle.fold_rules.proofs.address.any_poison.Given as goal

abbrev pub invariant-loop-index : goal.invariant-loop-index
invariant-loop-index l = any_poison (drop l.index-index l.indices) ≡ any_poison l.indices
