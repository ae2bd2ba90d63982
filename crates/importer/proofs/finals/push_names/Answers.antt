use Rattle.std.proofs.Common.{arith}
use Rattle.std.specs.Prelude.{option_copied}
use Rattle.importer.proofs.SymbolNames.{names_more}
use Rattle.importer.proofs.finals.push_names.Goals as goal

pub loop-number-preserved : goal.loop-number-preserved
loop-number-preserved c =
    names_more c.push_final.new.names c.loop-number.names c.args.names.now c.args.symbols.now c.args.suffixes.now c.args.numbers.now c.loop-number.number-index
    (option_copied c.symbol_at.result) (omega arith) c.symbol_at.ensures c.loop-number.invariant c.in_ok-push_final.ensures
