use Rattle.std.proofs.Common.{fold, map, take}
use Rattle.clap.specs.Words.{with_subcommand}
use Rattle.lto_words.specs.Table.{Builds, program, shape}
use Rattle.lto_words.proofs.table.with_commands.Given as goal

abbrev pub invariant-loop-name : goal.invariant-loop-name
invariant-loop-name l = Builds (fold with_subcommand program (map shape (take l.name-index l.commands))) l.program
