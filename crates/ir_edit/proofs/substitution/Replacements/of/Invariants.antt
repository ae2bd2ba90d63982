use Rattle.std.proofs.Common.{◌≡◌, ℕ, drop, option_map}
use Rattle.std.specs.BTreeMap as tree
use Rattle.std.specs.Ordering.{nat_cmp}
use Rattle.ir_edit.specs.Numbered.{later_or}
use Rattle.ir_edit.specs.Substituted.{replacement}
use Rattle.ir_edit.proofs.substitution.Replacements.of.Given as goal

abbrev pub invariant-loop-pair : goal.invariant-loop-pair
invariant-loop-pair l = (x : ℕ) → later_or (replacement (drop l.pair-index l.pairs) x) (option_map (λ o. o.now) (tree.get nat_cmp l.values x)) ≡ replacement l.pairs x
