use Rattle.std.proofs.Common.{◌≡◌, ◌++◌, drop, map}
use Rattle.inline_site.specs.Copies.{bound}
use Rattle.inline_site.specs.Copying.{shifted_by}
use Rattle.inline_site.proofs.copy.replacements.Given as goal

abbrev pub invariant-loop-place : goal.invariant-loop-place
invariant-loop-place l = l.replacements.items ++ map (shifted_by l.by) (bound (drop l.place l.params) (drop l.place l.arguments)) ≡ map (shifted_by l.by) (bound l.params l.arguments)
