use Rattle.emit.proofs.Closing.{are_kept, is_closed}
use Rattle.emit.proofs.Reordering.{is_reordering}
use Rattle.emit.proofs.laws.emission_is_reordering.Goals as goal

pub returns : goal.returns
returns c = record { roots = are_kept; closed = is_closed; order = is_reordering }
