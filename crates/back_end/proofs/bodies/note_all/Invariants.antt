use Rattle.std.proofs.Common.{◌≡◌, ◌≤◌, ℕ, List, drop, length, map}
use Rattle.back_end.specs.Inlinable.{bodies_of, or_else}
use Rattle.back_end.specs.Walking.{named}
use Rattle.back_end.proofs.bodies.note_all.Given as goal

abbrev pub invariant-loop-place : goal.invariant-loop-place
invariant-loop-place l = record {
  within : l.place ≤ length l.globals;
  noted : (name : List ℕ) → named l.table name ≡ or_else (bodies_of l.limit (map (λ g. g.now) (drop l.place l.globals)) name) (named l.fn.table name);
}

abbrev pub decreases-loop-place : goal.decreases-loop-place
decreases-loop-place l = l.place
