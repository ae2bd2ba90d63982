use Rattle.inline_site.proofs.Rooms.{past_block}
use Rattle.inline_site.proofs.free.past_block.Goals as goal

pub returns : goal.returns
returns c =
    past_block c.args.free c.past-free.result c.past_phis-free.result c.past_lines.result c.args.block.now c.as_slice.result.now c.as_slice-2.result.now c.past-free.ensures c.as_slice.ensures c.past_phis-free.ensures
    c.as_slice-2.ensures c.past_lines.ensures
