use Rattle.std.proofs.Common.{◌≡◌, ◌++◌, drop}
use Rattle.std.specs.BTreeMap.{get}
use Rattle.std.specs.Ordering.{nat_cmp}
use Rattle.ir_flow.specs.Dominating.{dominance}
use Rattle.fact_sources.specs.Above.{is_above}
use Rattle.ir_facts.specs.Askable.{BlocksHaveWidths}
use Rattle.ir_facts.specs.Clear.{all_over}
use Rattle.ir_facts.proofs.scopes.push_all_over.Given as goal

abbrev pub invariant-loop-block : goal.invariant-loop-block
invariant-loop-block l = record {
  sized : BlocksHaveWidths (drop l.block-index l.blocks);
  at : l.place ≡ l.block-index;
  keys :
      l.keys.items ++ all_over (get nat_cmp l.places) (is_above (dominance l.above)) l.place (drop l.block-index l.blocks)
      ≡ l.initial.keys.items ++ all_over (get nat_cmp l.places) (is_above (dominance l.above)) 0 l.blocks;
}
