use Rattle.std.proofs.Common.{◌≡◌, ℕ, ◌<◌, false, take}
use Rattle.std.specs.Prelude.{nat_eq, slice_get, Some}
use Rattle.std.specs.List.{list_any}
use Rattle.std.specs.HashSet as set
use Rattle.ir_tree.specs.declared.block.Case.{Case}
use Rattle.ir_verify.proofs.cases.cases_differ.Given as goal

abbrev pub invariant-loop-case : goal.invariant-loop-case
invariant-loop-case l = record {
  seen : (q : ℕ) → set.contains nat_eq l.seen q ≡ list_any (λ (c : Case). nat_eq q c.bits) (take l.case-index l.cases);
  fresh : (i : ℕ) (x : Case) → i < l.case-index → slice_get l.cases i ≡ Some x → list_any (λ (c : Case). nat_eq x.bits c.bits) (take i l.cases) ≡ false;
}
