use Rattle.cache_slot.proofs.Parts.{reads_one_way}
use Rattle.cache_slot.proofs.entry.reads_one_way.Goals as goal

pub returns : goal.returns
returns c = reads_one_way
