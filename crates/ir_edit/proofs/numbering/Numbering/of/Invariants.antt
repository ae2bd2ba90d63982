use Rattle.std.proofs.Common.{◌≡◌, ℕ, drop}
use Rattle.std.specs.BTreeMap as tree
use Rattle.std.specs.Ordering.{nat_cmp}
use Rattle.ir_edit.specs.Numbered.{later_or, place_from}
use Rattle.ir_edit.proofs.numbering.Numbering.of.Given as goal

abbrev pub invariant-loop-number : goal.invariant-loop-number
invariant-loop-number l = record {
  count : l.count ≡ l.number-index;
  places : (x : ℕ) → later_or (place_from l.count (drop l.number-index l.numbers) x) (tree.get nat_cmp l.places x) ≡ place_from 0 l.numbers x;
}
