use Rattle.std.proofs.Common.{◌≡◌, ◌++◌, drop}
use Rattle.ir_parse.specs.Lines.{lines_of}
use Rattle.ir_parse.proofs.value_lines.lines_of.Given as goal

abbrev pub invariant-each : goal.invariant-each
invariant-each l = l.out ++ lines_of (drop l.item-index l.items) ≡ lines_of l.items
