use Rattle.std.proofs.Common.{List, length, ap, sym, arith}
use Rattle.ir_interp.specs.declared.code.Block.{Block}
use Rattle.machine_code.specs.Blocks.{IsSoundBlock}
use Rattle.machine_code.proofs.Blocking.{counted_next, long_pushed, no_blocks, none_counted, one_block}
use Rattle.machine_code.proofs.Zips.{all_at}
use Rattle.machine_code.proofs.addresses.Addresses.blocks_at.Goals as goal

pub loop-block-init : goal.loop-block-init
loop-block-init c = record {
  long = ap (λ (bs : List Block). length bs) c.in_ok-all.ensures.items;
  count = sym (none_counted c.args.blocks.now);
  each = no_blocks c.args.self.now c.args.blocks.now c.in_ok-all.all.items c.in_ok-all.ensures.items;
}

pub block-requires : goal.block-requires
block-requires c = all_at IsSoundBlock c.args.blocks.now c.loop-block.block-index c.block-item.result c.loop-block-test.true c.block-item.is c.requires.sound

pub overflow_add-count : goal.overflow_add-count
overflow_add-count c =
    let made = c.in_ok-made.ensures c.args.blocks.now c.requires.placed in
    omega (arith, made.short, c.len.ensures)

pub overflow_add-count-in-loop-block : goal.overflow_add-count-in-loop-block
overflow_add-count-in-loop-block c =
    let made = c.in_ok-made.ensures c.args.blocks.now c.requires.placed in
    omega (arith, made.short, c.len.ensures)

pub loop-block-preserved : goal.loop-block-preserved
loop-block-preserved c =
    let made = c.in_ok-made.ensures c.args.blocks.now c.requires.placed in
    let more = counted_next c.args.blocks.now c.loop-block.block-index c.block-item.result c.loop-block-test.true c.block-item.is in
    record {
      long = long_pushed c.loop-block.all.items _ c.in_ok-made.made c.loop-block.block-index c.loop-block.invariant.long c.in_ok-push.ensures.items;
      count = omega (arith, more, made.before, c.len.ensures, c.loop-block.invariant.count);
      each = one_block c.args.self.now c.args.blocks.now c.loop-block.all.items _ c.loop-block.block-index c.block-item.result c.in_ok-made.made c.loop-block.count
          c.loop-block-test.true c.block-item.is c.loop-block.invariant.long c.loop-block.invariant.count made c.loop-block.invariant.each c.in_ok-push.ensures.items;
    }

pub returns-clause-long : goal.returns-clause-long
returns-clause-long c = omega (arith, c.loop-block.invariant.long, c.loop-block-test.false)

pub returns-clause-each : goal.returns-clause-each
returns-clause-each c = c.loop-block.invariant.each
