use Rattle.std.proofs.Common.{◌≡◌, drop}
use Rattle.ir_facts.specs.Candidates.{takes_only}
use Rattle.ir_facts.proofs.sources.takes_only.Given as goal

abbrev pub invariant-loop-entry : goal.invariant-loop-entry
invariant-loop-entry l = takes_only l.local l.value (drop l.entry-index l.incoming) ≡ takes_only l.local l.value l.incoming
