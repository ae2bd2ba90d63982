use Rattle.std.proofs.Common.{map, take}
use Rattle.lto_words.specs.Table.{Builds, alone, rule}
use Rattle.lto_words.specs.Table as table
use Rattle.lto_words.proofs.table.command.Given as goal

abbrev pub invariant-loop-argument : goal.invariant-loop-argument
invariant-loop-argument l = Builds (alone (table.command l.name (map rule (take l.argument-index l.arguments)))) l.command
