use Rattle.std.proofs.Common.{◌≡◌, ℕ, drop}
use Rattle.ir_edit.specs.Numbered.{later_or}
use Rattle.ir_edit.specs.Substituted.{replacement}
use Rattle.fact_sources.specs.Tables.{row_in}
use Rattle.fact_sources.proofs.substitution.Substitution.of.Given as goal

abbrev pub invariant-loop-pair : goal.invariant-loop-pair
invariant-loop-pair l = (x : ℕ) → later_or (replacement (drop l.pair-index l.pairs) x) (row_in l.table x) ≡ replacement l.pairs x
