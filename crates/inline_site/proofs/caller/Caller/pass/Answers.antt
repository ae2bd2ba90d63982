use Rattle.std.proofs.Common.{◌∙◌, drop}
use Rattle.std.proofs.lemmas.List.{drop_all}
use Rattle.inline_site.proofs.Elements.{next_copy, none_left}
use Rattle.inline_site.proofs.caller.Caller.pass.Goals as goal

pub loop-block-preserved : goal.loop-block-preserved
loop-block-preserved c = record {
  done =
      next_copy c.args.blocks.now c.loop-block.block-index c.block-item.result c.loop-block.self.done.items c.push.new.self.items c.in_ok-block.block c.loop-block-test.true c.block-item.is c.in_ok-block.ensures
      c.in_ok-push.ensures.items
      ∙ c.loop-block.invariant.done;
  free = c.loop-block.invariant.free;
  late = c.loop-block.invariant.late;
}

pub returns : goal.returns
returns c = record {
  done = none_left c.loop-block.self.done.items (drop c.loop-block.block-index c.args.blocks.now) _ (drop_all c.loop-block.block-index c.args.blocks.now c.loop-block-test.false) c.loop-block.invariant.done;
  free = c.loop-block.invariant.free;
  late = c.loop-block.invariant.late;
}
