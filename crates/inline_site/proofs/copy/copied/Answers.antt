use Rattle.std.proofs.Common.{◌≡◌, ℕ, ◌+◌, List, map, ◌∙◌, ap}
use Rattle.std.proofs.lemmas.Result.{IfOk-weaker}
use Rattle.ir_tree.specs.declared.function.Function.{Function}
use Rattle.ir_tree.specs.declared.function.Param.{Param}
use Rattle.ir_edit.specs.Substituted.{substituted}
use Rattle.inline_site.specs.Copies.{behind_call, bound}
use Rattle.inline_site.specs.Copying.{shifted_by}
use Rattle.inline_site.proofs.Copied.{copied_is, last_is, moved}
use Rattle.inline_site.proofs.copy.copied.Goals as goal

pub returns : goal.returns
returns c =
    let moved_is : c.in_ok-moved.moved ≡ moved c.args.free c.in_ok-last.last c.args.callee.now = c.in_ok-moved.ensures in
    let behind : c.last_number.result ≡ behind_call c.args.free c.args.callee.now =
    last_is c.args.free c.in_ok-last.last c.args.callee.now c.as_slice.result.now c.last_number.result c.in_ok-last.ensures (c.as_slice.ensures ∙ ap (λ (f : Function). f.blocks) moved_is) c.last_number.ensures in
    IfOk-weaker c.with_arguments.result _ _
    (λ rows is sound.
    copied_is c.args.free c.in_ok-last.last c.in-Some.by c.args.callee.now c.args.arguments.now c.in_ok-moved.moved rows sound.formed c.in_ok-last.ensures moved_is
    (c.in-Some.ensures.1 ∙ ap (λ (n : ℕ). n + 1) behind)
    (is ∙ ap (λ (ps : List Param). (substituted (map (shifted_by c.in-Some.by) (bound ps c.args.arguments.now)) c.in_ok-moved.moved).blocks) c.as_slice-2.ensures)) c.with_arguments.ensures
