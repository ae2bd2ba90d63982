use Rattle.std.proofs.Common.{◌∙◌, ℕ, List, ap}
use Rattle.ir_tree.specs.declared.operand.Operand.{Operand}
use Rattle.ir_edit.specs.Substituted.{substituted}
use Rattle.inline_site.proofs.late.poisoned.Goals as goal

pub returns : goal.returns
returns c = c.in_ok-g.ensures ∙ ap (λ (l : List (ℕ × Operand)). substituted l c.args.f.now) (c.deref.ensures.value ∙ c.in_ok-poisons.ensures)
