use Rattle.std.proofs.Common.{ℕ, ◌+◌, List, ◌++◌, map, drop, sym, ◌∙◌, ap, arith, append-nil}
use Rattle.ir_tree.specs.declared.operand.Operand.{Operand}
use Rattle.inline_site.specs.Copies.{bound}
use Rattle.inline_site.specs.Copying.{shifted_by}
use Rattle.inline_site.proofs.Bound.{bound_end, bound_more}
use Rattle.inline_site.proofs.copy.replacements.Goals as goal

pub loop-place-preserved : goal.loop-place-preserved
loop-place-preserved c =
    ap (λ (l : List (ℕ × Operand)). l ++ map (shifted_by c.args.by) (bound (drop (c.loop-place.place + 1) c.args.params.now) (drop (c.loop-place.place + 1) c.args.arguments.now))) c.in_ok-push.ensures.items
    ∙ bound_more c.args.params.now c.args.arguments.now c.loop-place.place c.args.by c.in-Some.local _ c.index-arguments-place.result c.in_ok-operand.operand c.loop-place.replacements.items
    (omega (arith, c.min-place-end.ensures, c.loop-place-test.true)) (omega (arith, c.min-place-end.ensures, c.loop-place-test.true)) c.in-Some.ensures.1 c.in_ok-operand.ensures
    ∙ c.loop-place.invariant

pub returns : goal.returns
returns c =
    sym (append-nil c.loop-place.replacements.items)
    ∙ ap (λ (l : List (ℕ × Operand)). c.loop-place.replacements.items ++ map (shifted_by c.args.by) l)
    (sym (bound_end c.args.params.now c.args.arguments.now c.loop-place.place (omega (arith, c.min-place-end.ensures, c.loop-place-test.false))))
    ∙ c.loop-place.invariant
