use Rattle.std.proofs.Common.{◌≡◌, drop}
use Rattle.branch_simplify.specs.Staying.{ends_stay}
use Rattle.branch_simplify.proofs.staying.ends_stay.Given as goal

abbrev pub invariant-loop-block : goal.invariant-loop-block
invariant-loop-block l = ends_stay (drop l.block-index l.blocks) ≡ ends_stay l.blocks
