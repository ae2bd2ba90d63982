use Rattle.std.proofs.Common.{◌∙◌, ap}
use Rattle.std.proofs.lemmas.Result.{IfOk-weaker}
use Rattle.ir_tree.specs.declared.function.Function.{Function}
use Rattle.ir_tree.specs.Edited.{shifted}
use Rattle.ir_edit.specs.Numbered.{in_text_order}
use Rattle.inline_site.proofs.copy.moved.Goals as goal

pub returns : goal.returns
returns c =
    IfOk-weaker c.numbered_from.result _ _ (λ g is. is ∙ ap (λ (f : Function). shifted c.args.free (in_text_order f)) c.in_ok-callee_opened.ensures) c.numbered_from.ensures
