use Rattle.std.proofs.Common.{◌≡◌, ◌++◌, drop}
use Rattle.ir_summary.specs.Once.{texts}
use Rattle.ir_tree.specs.Once.{once}
use Rattle.ir_summary.proofs.Onces.{outside}
use Rattle.ir_summary.proofs.names.distinct.Given as goal

abbrev pub invariant-loop-name : goal.invariant-loop-name
invariant-loop-name l = texts l.seen.keys ++ outside (texts l.seen.keys) (once (texts (drop l.name-index l.names))) ≡ once (texts l.names)
