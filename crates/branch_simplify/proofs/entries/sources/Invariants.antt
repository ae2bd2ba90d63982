use Rattle.std.proofs.Common.{◌≡◌, ◌++◌, drop}
use Rattle.ir_meaning.specs.Counted.{sources}
use Rattle.branch_simplify.proofs.entries.sources.Given as goal

abbrev pub invariant-loop-entry : goal.invariant-loop-entry
invariant-loop-entry l = l.numbers.items ++ sources (drop l.entry-index l.entries) ≡ sources l.entries
