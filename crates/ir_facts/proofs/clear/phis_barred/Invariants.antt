use Rattle.std.proofs.Common.{◌≡◌, drop}
use Rattle.std.specs.BTreeMap.{get}
use Rattle.std.specs.Ordering.{nat_cmp}
use Rattle.ir_facts.specs.Clear.{phis_barred}
use Rattle.ir_facts.specs.Scopes.{bars}
use Rattle.ir_facts.proofs.clear.phis_barred.Given as goal

abbrev pub invariant-loop-phi : goal.invariant-loop-phi
invariant-loop-phi l = phis_barred (bars l.scopes) (get nat_cmp l.scopes.numbers) (drop l.phi-index l.phis) ≡ phis_barred (bars l.scopes) (get nat_cmp l.scopes.numbers) l.phis
