use Rattle.std.proofs.Common.{◌≡◌, drop}
use Rattle.std.specs.List.{position_from}
use Rattle.combined_index.specs.LiveMarks.{any_refers}
use Rattle.combined_index.proofs.referring.first_referring.Given as goal

abbrev pub invariant-loop-place : goal.invariant-loop-place
invariant-loop-place l = position_from (any_refers l.live l.number) l.place (drop l.place l.index.modules) ≡ position_from (any_refers l.live l.number) 0 l.index.modules
