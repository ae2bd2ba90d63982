use Rattle.std.proofs.Common.{List, ◌+◌, ◌∷◌, drop, sym, ◌∙◌, ap, subst}
use Rattle.std.specs.Prelude.{All}
use Rattle.std.proofs.lemmas.List.{drop_all, drop_more}
use Rattle.std.proofs.lemmas.List.Elements.{All-cons, All-nil}
use Rattle.ir_tree.specs.declared.instr.Line.{Line}
use Rattle.back_end.specs.Walking.{LineTakesNone, bodies_in}
use Rattle.back_end.proofs.calls.lines_taken.Goals as goal

pub loop-line-preserved : goal.loop-line-preserved
loop-line-preserved c = λ more.
    let none = LineTakesNone (bodies_in c.args.bodies.now) c.args.symbol.now c.args.count in
    let lines = c.args.lines.now in
    let i = c.loop-line.line-index in
    c.loop-line.invariant
    (subst (λ (xs : List Line). All none xs) (sym (drop_more lines i c.line-item.result c.loop-line-test.true ∙ ap (λ (x : Line). x ∷ drop (i + 1) lines) (sym c.line-item.is)))
    (All-cons none c.line-item.result (drop (i + 1) lines) (c.line_taken.ensures c.if-line_taken.false) more))

pub returns : goal.returns
returns c = λ e.
    let none = LineTakesNone (bodies_in c.args.bodies.now) c.args.symbol.now c.args.count in
    c.loop-line.invariant (subst (λ (xs : List Line). All none xs) (sym (drop_all c.loop-line.line-index c.args.lines.now c.loop-line-test.false)) (All-nil none))
