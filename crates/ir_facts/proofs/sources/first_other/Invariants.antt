use Rattle.std.proofs.Common.{◌≡◌, drop}
use Rattle.ir_facts.specs.Candidates.{first_other}
use Rattle.ir_facts.proofs.sources.first_other.Given as goal

abbrev pub invariant-loop-entry : goal.invariant-loop-entry
invariant-loop-entry l = first_other l.local (drop l.entry-index l.incoming) ≡ first_other l.local l.incoming
