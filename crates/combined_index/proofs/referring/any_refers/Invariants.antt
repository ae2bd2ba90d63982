use Rattle.std.proofs.Common.{◌≡◌, drop}
use Rattle.combined_index.specs.LiveMarks.{any_refers}
use Rattle.combined_index.proofs.referring.any_refers.Given as goal

abbrev pub invariant-loop-definition : goal.invariant-loop-definition
invariant-loop-definition l = any_refers l.live l.number (drop l.definition-index l.definitions) ≡ any_refers l.live l.number l.definitions
