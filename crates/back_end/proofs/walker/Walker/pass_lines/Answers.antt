use Rattle.std.proofs.Common.{List, ◌+◌, ◌∷◌, drop, sym, ◌∙◌, ap, subst}
use Rattle.std.proofs.lemmas.List.{drop_all, drop_more}
use Rattle.ir_tree.specs.declared.instr.Line.{Line}
use Rattle.back_end.specs.Walking.{IsBegun, bodies_in}
use Rattle.back_end.proofs.walker.Walker.pass_lines.Goals as goal

pub loop-line-preserved : goal.loop-line-preserved
loop-line-preserved c = λ f end ahead same here.
    let lines = c.args.lines.now in
    let i = c.loop-line.line-index in
    c.in_ok-pass_line.ensures f (drop (i + 1) lines) end ahead same
    (subst (λ (ls : List Line). IsBegun (bodies_in c.args.bodies.now) f c.loop-line.self c.loop-line.block ls end ahead)
    (drop_more lines i c.line-item.result c.loop-line-test.true ∙ ap (λ (l : Line). l ∷ drop (i + 1) lines) (sym c.line-item.is)) (c.loop-line.invariant f end ahead same here))

pub returns : goal.returns
returns c = λ f end ahead same here.
    subst (λ (ls : List Line). IsBegun (bodies_in c.args.bodies.now) f c.loop-line.self c.loop-line.block ls end ahead) (drop_all c.loop-line.line-index c.args.lines.now c.loop-line-test.false)
    (c.loop-line.invariant f end ahead same here)
