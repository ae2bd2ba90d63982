use Rattle.std.proofs.Common.{◌≡◌, ◌≤◌, length}
use Rattle.ir_tree.specs.Formed.{Distinct}
use Rattle.ir_tree.specs.Wholes.{symbols}
use Rattle.machine_code.specs.Tables.{number_at}
use Rattle.machine_code.proofs.Tabling.{TableTo}
use Rattle.machine_code.proofs.bases.Bases.of.Given as goal

abbrev pub invariant-loop-index : goal.invariant-loop-index
invariant-loop-index l = record {
  within : l.index ≤ length l.globals;
  few : l.number ≤ l.index;
  count : l.number ≡ number_at 0 l.globals l.index;
  table : Distinct (symbols l.globals) → TableTo l.globals l.index l.bases;
}
