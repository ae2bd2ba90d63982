use Rattle.std.proofs.Common.{◌≡◌, ◌++◌, drop}
use Rattle.inline_site.specs.Inlined.{return_entries}
use Rattle.inline_site.proofs.returns.return_entries.Given as goal

abbrev pub invariant-loop-block : goal.invariant-loop-block
invariant-loop-block l = l.entries ++ return_entries (drop l.block-index l.copy) ≡ return_entries l.copy
