use Rattle.std.proofs.Common.{◌≡◌, ◌<◌, ◌≤◌, ◌∙◌, Some, None, length, subst, arith, below_more}
use Rattle.std.specs.Prelude.{slice_get}
use Rattle.ir_tree.specs.declared.block.Block.{Block}
use Rattle.block_trim.specs.Working.{next}
use Rattle.block_trim.proofs.Loops.{index_of}
use Rattle.block_trim.proofs.Start.{below}
use Rattle.block_trim.proofs.Turns.{turn_at}
use Rattle.block_trim.proofs.joining.Joining.grow_all.Goals as goal

pub loop-taker-preserved : goal.loop-taker-preserved
loop-taker-preserved c = record {
  joined = λ f is once was.
      c.in_ok-grow.ensures.joined f once
      (turn_at f c.loop-taker.self c.args.blocks.now c.loop-taker.taker-index c.taker-item.result is once c.loop-taker-test.true c.taker-item.is c.loop-taker.invariant.done)
      (c.loop-taker.invariant.joined f is once was);
  done = λ i b lt at.
      below_more (λ k. (b : Block) → slice_get c.args.blocks.now k ≡ Some b → next c.grow.new.self b.number ≡ None) c.loop-taker.taker-index
      (λ k lt b at. c.in_ok-grow.ensures.others b.number (c.loop-taker.invariant.done k b lt at))
      (λ b at. subst (λ (x : Block). next c.grow.new.self x.number ≡ None) (c.taker-item.is ∙ index_of c.args.blocks.now c.loop-taker.taker-index c.taker-item.result b at) c.in_ok-grow.ensures.done) i lt b at;
}

pub returns-clause-done : goal.returns-clause-done
returns-clause-done c = λ b at.
    let lt : at.0 < length c.args.blocks.now = below c.args.blocks.now at.0 b at.1 in
    let end : length c.args.blocks.now ≤ c.loop-taker.taker-index = c.loop-taker-test.false in
    c.loop-taker.invariant.done at.0 b (omega (arith, lt, end)) at.1
