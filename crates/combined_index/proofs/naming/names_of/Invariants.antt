use Rattle.combined_index.proofs.Marked.{Named}
use Rattle.combined_index.proofs.naming.names_of.Given as goal

abbrev pub invariant-loop-number : goal.invariant-loop-number
invariant-loop-number l = Named l.suffixes l.symbols l.live l.number l.names
