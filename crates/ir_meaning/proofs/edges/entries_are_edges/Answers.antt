use Rattle.ir_meaning.proofs.Entries.{entries_counted}
use Rattle.ir_meaning.proofs.edges.entries_are_edges.Goals as goal

pub returns : goal.returns
returns c = entries_counted
