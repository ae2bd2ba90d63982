-- What a table of replacements has for a local.
use Rattle.std.specs.Prelude.{ℕ, Option, option_map}
use Rattle.std.specs.BTreeMap as tree
use Rattle.std.specs.Ordering.{nat_cmp}
use Rattle.ir_tree.specs.declared.operand.Operand.{Operand}
use Rattle.ir_edit.specs.declared.substitution.Replacements.{Replacements}

abbrev pub value_in : Replacements → ℕ → Option Operand
value_in r x = option_map (λ o. o.now) (tree.get nat_cmp r.values x)
