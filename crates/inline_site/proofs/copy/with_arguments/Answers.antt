use Rattle.std.proofs.Common.{◌∙◌, ℕ, List, ap}
use Rattle.ir_tree.specs.declared.function.Function.{Function}
use Rattle.ir_tree.specs.declared.operand.Operand.{Operand}
use Rattle.ir_edit.specs.Substituted.{substituted}
use Rattle.inline_site.proofs.copy.with_arguments.Goals as goal

pub returns : goal.returns
returns c =
    ap (λ (g : Function). g.blocks)
    (c.in_ok-copy.ensures ∙ ap (λ (l : List (ℕ × Operand)). substituted l c.args.f.now) (c.deref.ensures.value ∙ c.in_ok-replacements.ensures))
