use Rattle.std.proofs.Common.{◌≡◌, ◌++◌, take}
use Rattle.importer.specs.Brought.{names_of}
use Rattle.importer.proofs.finals.push_names.Given as goal

abbrev pub invariant-loop-number : goal.invariant-loop-number
invariant-loop-number l = l.names ≡ l.fn.names ++ names_of l.symbols l.suffixes (take l.number-index l.numbers)
