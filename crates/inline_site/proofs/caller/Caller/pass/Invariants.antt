use Rattle.std.proofs.Common.{◌≡◌, ◌++◌, drop}
use Rattle.inline_site.proofs.caller.Caller.pass.Given as goal

abbrev pub invariant-loop-block : goal.invariant-loop-block
invariant-loop-block l = record {
  done : l.self.done.items ++ drop l.block-index l.blocks ≡ l.fn.self.done.items ++ l.blocks;
  free : l.self.free ≡ l.fn.self.free;
  late : l.self.late ≡ l.fn.self.late;
}
