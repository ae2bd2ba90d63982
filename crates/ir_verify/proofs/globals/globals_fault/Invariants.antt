use Rattle.std.specs.Prelude.{◌≡◌, length}
use Rattle.ir_flow.specs.OfFunction.{AreFlows}
use Rattle.ir_verify.specs.Modules.{IsFirst}
use Rattle.ir_verify.proofs.globals.globals_fault.Given as goal

abbrev pub invariant-loop-number : goal.invariant-loop-number
invariant-loop-number l = record {
  first : IsFirst l.globals l.lines l.number l.best;
  count : length l.flows ≡ l.number;
  flows : AreFlows l.globals l.flows;
}
