use Rattle.std.proofs.Common.{◌≡◌, ℕ, ◌++◌, drop, Some, None}
use Rattle.dead_code.specs.Readers.{read_for}
use Rattle.dead_code.specs.Uses.{read_by}
use Rattle.dead_code.proofs.readers.Readers.of.Given as goal

abbrev pub invariant-loop-one : goal.invariant-loop-one
invariant-loop-one l = record {
  effects : l.readers.by_effects.items ++ read_by None (drop l.one-index l.uses) ≡ read_by None l.uses;
  definitions : (x : ℕ) → read_for l.readers x ++ read_by (Some x) (drop l.one-index l.uses) ≡ read_by (Some x) l.uses;
}
