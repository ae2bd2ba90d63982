use Rattle.std.proofs.Common.{◌≡◌, ◌++◌, replicate}
use Rattle.ir_tree.specs.declared.init_node.InitPart.TheVariants.{End}
use Rattle.ir_parse_values.proofs.collected.push_ends.Given as goal

abbrev pub invariant-each : goal.invariant-each
invariant-each l = l.parts ≡ l.initial.parts ++ replicate l.counter End
