use Rattle.inline_site.proofs.Rooms.{past_all}
use Rattle.inline_site.proofs.free.past_all.Goals as goal

pub returns : goal.returns
returns c = past_all c.args.params.now c.args.blocks.now c.past_params-free.result c.past_blocks.result c.past_params-free.ensures c.past_blocks.ensures
