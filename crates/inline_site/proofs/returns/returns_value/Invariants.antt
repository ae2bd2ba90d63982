use Rattle.std.proofs.Common.{◌≡◌, drop}
use Rattle.inline_site.specs.Inlined.{return_entries}
use Rattle.inline_site.proofs.returns.returns_value.Given as goal

abbrev pub invariant-loop-block : goal.invariant-loop-block
invariant-loop-block l = return_entries (drop l.block-index l.copy) ≡ return_entries l.copy
