use Rattle.std.proofs.Common.{List, arith, map, subst}
use Rattle.std.proofs.lemmas.List.{take_all}
use Rattle.lto_words.specs.Table.{Builds, alone, command, rule}
use Rattle.lto_words.specs.declared.argument.Argument.{Argument}
use Rattle.lto_words.proofs.Arguments.{argument_more}
use Rattle.lto_words.proofs.table.command.Goals as goal

pub loop-argument-preserved : goal.loop-argument-preserved
loop-argument-preserved c =
    argument_more c.args.name.now c.args.arguments.now c.loop-argument.argument-index _ c.loop-argument.command c.in-Ok.command c.to_arg.result c.loop-argument-test.true
    c.loop-argument.invariant c.in-Ok.ensures c.to_arg.ensures.rule c.to_arg.ensures.local

pub returns : goal.returns
returns c =
    let all = take_all c.loop-argument.argument-index c.args.arguments.now (omega (arith, c.loop-argument-test.false)) in
    subst (λ (arguments : List Argument). Builds (alone (command c.args.name.now (map rule arguments))) c.loop-argument.command) all c.loop-argument.invariant
