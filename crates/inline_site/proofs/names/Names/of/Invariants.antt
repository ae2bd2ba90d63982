use Rattle.std.proofs.Common.{◌≡◌, ℕ, drop}
use Rattle.inline_site.specs.Callers.{name_in, named_by}
use Rattle.inline_site.proofs.names.Names.of.Given as goal

abbrev pub invariant-loop-place : goal.invariant-loop-place
invariant-loop-place l = (n : ℕ) → name_in l.names n ≡ named_by (drop l.place l.halves) n
