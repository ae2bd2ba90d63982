use Rattle.std.proofs.Common.{◌≡◌, ◌++◌, drop, nat_eq}
use Rattle.std.specs.HashSet.{contains}
use Rattle.ir_facts.specs.Askable.{BlocksHaveWidths}
use Rattle.ir_facts.specs.Clear.{all_inner}
use Rattle.ir_facts.proofs.scopes.push_all_inner.Given as goal

abbrev pub invariant-loop-block : goal.invariant-loop-block
invariant-loop-block l = record {
  sized : BlocksHaveWidths (drop l.block-index l.blocks);
  keys : l.keys.items ++ all_inner (contains nat_eq l.outside) (drop l.block-index l.blocks) ≡ l.initial.keys.items ++ all_inner (contains nat_eq l.outside) l.blocks;
}
