use Rattle.std.proofs.Common.{◌≡◌, drop}
use Rattle.std.specs.BTreeMap.{get}
use Rattle.std.specs.Ordering.{nat_cmp}
use Rattle.ir_facts.specs.Clear.{entries_barred}
use Rattle.ir_facts.specs.Scopes.{bars}
use Rattle.ir_facts.proofs.clear.entries_barred.Given as goal

abbrev pub invariant-loop-entry : goal.invariant-loop-entry
invariant-loop-entry l = entries_barred (bars l.scopes) (get nat_cmp l.scopes.numbers) (drop l.entry-index l.incoming) ≡ entries_barred (bars l.scopes) (get nat_cmp l.scopes.numbers) l.incoming
