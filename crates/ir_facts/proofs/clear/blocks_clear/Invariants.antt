use Rattle.std.proofs.Common.{◌≡◌, drop}
use Rattle.std.specs.BTreeMap.{get}
use Rattle.std.specs.Ordering.{nat_cmp}
use Rattle.ir_facts.specs.Clear.{blocks_clear}
use Rattle.ir_facts.specs.Scopes.{bars}
use Rattle.ir_facts.proofs.clear.blocks_clear.Given as goal

abbrev pub invariant-loop-block : goal.invariant-loop-block
invariant-loop-block l = record {
  at : l.place ≡ l.block-index;
  clear : blocks_clear (bars l.scopes) (get nat_cmp l.scopes.numbers) l.place (drop l.block-index l.blocks) ≡ blocks_clear (bars l.scopes) (get nat_cmp l.scopes.numbers) 0 l.blocks;
}
