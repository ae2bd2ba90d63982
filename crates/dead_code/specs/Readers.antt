-- What a table of readers has: the locals that effects read, and those that the definitions of a local read.
use Rattle.std.specs.Prelude.{ℕ, List}
use Rattle.dead_code.specs.Lists.{list_in}
use Rattle.dead_code.specs.declared.readers.Readers.{Readers}

-- what the definitions of x read
abbrev pub read_for : Readers → ℕ → List ℕ
read_for r x = list_in r.by_definition x
