use Rattle.std.proofs.Common.{◌≡◌, length}
use Rattle.ir_flow.specs.OfFunction.{AreModuleFlows}
use Rattle.link_one.proofs.prepare.apart.Given as goal

abbrev pub invariant-loop-module : goal.invariant-loop-module
invariant-loop-module l = record {
  modules : l.all.items ≡ l.yielded;
  count : length l.flows.items ≡ length l.yielded;
  flows : AreModuleFlows l.yielded l.flows.items;
}
