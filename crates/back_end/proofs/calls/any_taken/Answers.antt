use Rattle.std.proofs.Common.{List, ◌+◌, ◌∷◌, drop, sym, ◌∙◌, ap, subst}
use Rattle.std.specs.Prelude.{All}
use Rattle.std.proofs.lemmas.List.{drop_all, drop_more}
use Rattle.std.proofs.lemmas.List.Elements.{All-cons, All-nil}
use Rattle.ir_tree.specs.declared.block.Block.{Block}
use Rattle.back_end.specs.Walking.{LineTakesNone, LinesTakeNone, bodies_in}
use Rattle.back_end.proofs.calls.any_taken.Goals as goal

pub loop-block-preserved : goal.loop-block-preserved
loop-block-preserved c = λ more.
    let none = LinesTakeNone (bodies_in c.args.bodies.now) c.args.symbol.now c.args.count in
    let blocks = c.args.blocks.now in
    let i = c.loop-block.block-index in
    c.loop-block.invariant
    (subst (λ (xs : List Block). All none xs) (sym (drop_more blocks i c.block-item.result c.loop-block-test.true ∙ ap (λ (x : Block). x ∷ drop (i + 1) blocks) (sym c.block-item.is)))
    (All-cons none c.block-item.result (drop (i + 1) blocks) (subst (All (LineTakesNone (bodies_in c.args.bodies.now) c.args.symbol.now c.args.count)) c.as_slice.ensures (c.lines_taken.ensures c.if-lines_taken.false)) more))

pub returns : goal.returns
returns c = λ e.
    let none = LinesTakeNone (bodies_in c.args.bodies.now) c.args.symbol.now c.args.count in
    c.loop-block.invariant (subst (λ (xs : List Block). All none xs) (sym (drop_all c.loop-block.block-index c.args.blocks.now c.loop-block-test.false)) (All-nil none))
