use Rattle.std.proofs.Common.{◌≡◌, drop}
use Rattle.back_end.specs.Inlinable.{calls}
use Rattle.back_end.proofs.inlinable.calls.Given as goal

abbrev pub invariant-loop-block : goal.invariant-loop-block
invariant-loop-block l = calls l.name (drop l.block-index l.blocks) ≡ calls l.name l.blocks
