use Rattle.std.proofs.Common.{◌≡◌, drop}
use Rattle.inline_site.specs.Callers.{poisons}
use Rattle.inline_site.proofs.late.poisons.Given as goal

abbrev pub invariant-loop-place : goal.invariant-loop-place
invariant-loop-place l = l.poisons.items ≡ poisons (drop l.place l.lost)
