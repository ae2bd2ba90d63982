use Rattle.std.proofs.Common.{◌≡◌, ◌++◌, drop}
use Rattle.combined_index.specs.Numbered.{symbols}
use Rattle.combined_index.proofs.key.symbols_of.Given as goal

abbrev pub invariant-loop-key : goal.invariant-loop-key
invariant-loop-key l = l.all.items ++ symbols (drop l.key-index l.keys) ≡ symbols l.keys
