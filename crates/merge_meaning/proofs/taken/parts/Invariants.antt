use Rattle.std.proofs.Common.{◌≡◌, ◌++◌, drop, map}
use Rattle.merge_meaning.specs.Kept.{part_under}
use Rattle.merge_meaning.specs.Scopes.{names_by}
use Rattle.merge_meaning.proofs.taken.parts.Given as goal

abbrev pub invariant-loop-old : goal.invariant-loop-old
invariant-loop-old l = l.rows ++ map (part_under (names_by l.scope)) (drop l.old-index l.parts) ≡ map (part_under (names_by l.scope)) l.parts
