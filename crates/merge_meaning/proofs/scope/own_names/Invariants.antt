use Rattle.std.proofs.Common.{◌≡◌, ◌||◌, ℕ, List, drop}
use Rattle.merge_meaning.specs.Kept.{is_kept}
use Rattle.merge_meaning.specs.Merged.{is_own}
use Rattle.merge_meaning.proofs.scope.own_names.Given as goal

abbrev pub invariant-loop-global : goal.invariant-loop-global
invariant-loop-global l = (name : List ℕ) → (is_kept l.own.keys name || is_own (drop l.global-index l.globals) name) ≡ is_own l.globals name
