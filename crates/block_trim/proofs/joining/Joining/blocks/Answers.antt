use Rattle.std.proofs.Common.{◌≡◌, ◌∙◌, ℕ, List, nat_eq, sym, ap}
use Rattle.std.specs.HashMap.{get}
use Rattle.block_trim.specs.Working.{block_of, blocks_taken, left, name_in, naming}
use Rattle.block_trim.specs.declared.joining.Join.{Join}
use Rattle.block_trim.proofs.Loops.{row_none, row_some, taken_step}
use Rattle.block_trim.proofs.joining.Joining.blocks.Goals as goal
use Rattle.block_trim.proofs.joining.Joining.blocks.Goals.{in-Some+in_ok-kept-in-Some+in_ok-push-in-Some, in-None}

pub loop-block-preserved : goal.loop-block-preserved
loop-block-preserved c = elim c.match-remove.branch [
  | in-Some+in_ok-kept-in-Some+in_ok-push-in-Some w ↦
      taken_step (naming c.args.self.joins.items) (get nat_eq c.loop-block.self.contents) (get nat_eq c.remove.new.self) c.args.blocks.now c.loop-block.block-index c.block-item.result c.loop-block-test.true c.block-item.is c.loop-block.rows c.match-remove.rows (blocks_taken (naming c.args.self.joins.items) (left c.args.self) c.args.blocks.now) c.remove.ensures.updates.0
      (row_some (naming c.args.self.joins.items) c.block-item.result w.in-Some.content (get nat_eq c.loop-block.self.contents c.block-item.result.number) _ c.loop-block.rows c.match-remove.rows (sym w.in-Some.ensures.value)
      (w.in_ok-kept-in-Some.ensures ∙ ap (λ (name : ℕ → ℕ). block_of name c.block-item.result w.in-Some.content) names) (w.rows-is ∙ w.in_ok-push-in-Some.ensures.ok)) c.loop-block.invariant
  | in-None w ↦ taken_step (naming c.args.self.joins.items) (get nat_eq c.loop-block.self.contents) (get nat_eq c.remove.new.self) c.args.blocks.now c.loop-block.block-index c.block-item.result c.loop-block-test.true c.block-item.is c.loop-block.rows c.match-remove.rows (blocks_taken (naming c.args.self.joins.items) (left c.args.self) c.args.blocks.now) c.remove.ensures.updates.0
      (row_none (naming c.args.self.joins.items) c.block-item.result (get nat_eq c.loop-block.self.contents c.block-item.result.number) c.loop-block.rows c.match-remove.rows (sym w.in-None.ensures.value) w.rows-is) c.loop-block.invariant
]
  where
    names : name_in c.in_ok-names.names ≡ naming c.args.self.joins.items
    names = λ i. λ n. (c.in_ok-names.ensures n ∙ ap (λ (js : List Join). naming js n) c.deref.ensures.value) i
