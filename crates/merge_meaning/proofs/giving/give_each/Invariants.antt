use Rattle.std.proofs.Common.{◌≡◌, ◌++◌, drop}
use Rattle.ir_flow.specs.OfFunction.{AreFlows}
use Rattle.merge_meaning.specs.Given.{given_each}
use Rattle.merge_meaning.proofs.giving.give_each.Given as goal

abbrev pub invariant-loop-place : goal.invariant-loop-place
invariant-loop-place l = record {
  rows : l.rows ++ given_each l.resolution l.scope (drop l.place l.verified.globals) ≡ l.fn.rows ++ given_each l.resolution l.scope l.verified.globals;
  flows : AreFlows l.verified.globals l.flows.items;
}
