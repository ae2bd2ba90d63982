use Rattle.cache_slot.proofs.Parts.{has_no_proper_prefix}
use Rattle.cache_slot.proofs.entry.has_no_proper_prefix.Goals as goal

pub returns : goal.returns
returns c = has_no_proper_prefix
