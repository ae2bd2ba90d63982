use Rattle.std.proofs.Common.{◌≡◌, ◌++◌, drop}
use Rattle.ir_edit.specs.Uses.{blocks_uses}
use Rattle.ir_edit.proofs.uses.push_uses.Given as goal

abbrev pub invariant-loop-block : goal.invariant-loop-block
invariant-loop-block g l =
    l.uses.items ++ blocks_uses g.U.FindUses.of_phi g.U.FindUses.of_line g.U.FindUses.of_read (drop l.block-index l.blocks)
    ≡ l.fn.uses.items ++ blocks_uses g.U.FindUses.of_phi g.U.FindUses.of_line g.U.FindUses.of_read l.blocks
