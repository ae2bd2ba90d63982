use Rattle.std.proofs.Common.{◌≡◌, ◌++◌, drop}
use Rattle.ir_flow.specs.OfFunction.{AreModuleFlows}
use Rattle.merge_meaning.specs.Given.{parts_in}
use Rattle.merge_meaning.proofs.parting.all_parts.Given as goal

abbrev pub invariant-loop-verified : goal.invariant-loop-verified
invariant-loop-verified l = record {
  parts : l.all.items ++ parts_in l.resolution l.link l.number (drop l.verified-index l.modules) ≡ parts_in l.resolution l.link 0 l.modules;
  number : l.number ≡ l.verified-index;
  flows : AreModuleFlows l.modules l.flows.items;
}
