use Rattle.std.proofs.Common.{◌≡◌, ◌++◌, drop, take}
use Rattle.std.specs.Prelude.{All}
use Rattle.ir_tree.specs.Wholes.{IsVerified}
use Rattle.merge_meaning.specs.Given.{merged_in}
use Rattle.merge_meaning.proofs.merging.given.Given as goal

abbrev pub invariant-loop-verified : goal.invariant-loop-verified
invariant-loop-verified l = record {
  rows : l.rows ++ merged_in l.resolution l.number (drop l.verified-index l.modules) ≡ merged_in l.resolution 0 l.modules;
  verified : All IsVerified (take l.verified-index l.modules);
}
