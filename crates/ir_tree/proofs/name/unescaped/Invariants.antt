use Rattle.std.proofs.Common.{◌≡◌, ◌++◌, drop}
use Rattle.ir_tree.specs.Names.{unescaped, IsOpen}
use Rattle.ir_tree.specs.declared.name.Escape.TheVariants.{Closed}
use Rattle.ir_tree.proofs.name.unescaped.Given as goal

abbrev pub invariant-loop-byte : goal.invariant-loop-byte
invariant-loop-byte l = record {
  said : l.out.items ++ unescaped l.state (drop l.byte-index l.content) ≡ unescaped Closed l.content;
  digit : IsOpen l.state;
}
