use Rattle.std.proofs.Common.{List, arith, fold, map, subst}
use Rattle.std.proofs.lemmas.List.{take_all}
use Rattle.std.specs.Borrow.{Bor}
use Rattle.clap.specs.Words.{Text, with_subcommand}
use Rattle.lto_words.specs.Table.{Builds, program, shape}
use Rattle.lto_words.specs.declared.argument.Argument.{Argument}
use Rattle.lto_words.proofs.Arguments.{command_more}
use Rattle.lto_words.proofs.table.with_commands.Goals as goal

pub loop-name-preserved : goal.loop-name-preserved
loop-name-preserved c =
    command_more program c.args.commands.now c.loop-name.name-index _ c.loop-name.program _ c.in-Ok-subcommand.program c.loop-name-test.true c.loop-name.invariant c.in-Ok.ensures c.in-Ok-subcommand.ensures

pub returns : goal.returns
returns c =
    let all = take_all c.loop-name.name-index c.args.commands.now (omega (arith, c.loop-name-test.false)) in
    subst (λ (rows : List (Bor Text × Bor (List Argument))). Builds (fold with_subcommand program (map shape rows)) c.loop-name.program) all c.loop-name.invariant
