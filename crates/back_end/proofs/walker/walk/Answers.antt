use Rattle.std.proofs.Common.{◌≡◌, ◌+◌, List, ◌∷◌, drop, ap, length, refl, sym, ◌∙◌, subst, arith}
use Rattle.std.proofs.lemmas.List.{drop_all, drop_more}
use Rattle.ir_tree.specs.declared.block.Block.{Block}
use Rattle.back_end.specs.Walking.{IsAhead, bodies_in}
use Rattle.back_end.proofs.Ahead.{walked}
use Rattle.back_end.proofs.walker.walk.Goals as goal

pub returns-clause-walk : goal.returns-clause-walk
returns-clause-walk c =
    let blocks = ap length c.as_slice-block-items.ensures in
    walked (bodies_in c.args.bodies.now) c.args.f.now c.in_ok-g.g c.loop-block.walker c.in_ok-g.ensures
    (subst (λ (bs : List Block). IsAhead (bodies_in c.args.bodies.now) c.args.f.now c.loop-block.walker bs) (drop_all c.loop-block.block-index c.args.f.now.blocks (omega (arith, c.loop-block-test.false, blocks))) c.loop-block.invariant)

pub returns-clause-sound : goal.returns-clause-sound
returns-clause-sound c =
    (c.walk_is_better.ensures (bodies_in c.args.bodies.now) c.args.f.now c.in_ok-g.g c.requires.sound c.requires.bodies (returns-clause-walk c)).0

pub loop-block-preserved : goal.loop-block-preserved
loop-block-preserved c =
    let i = c.loop-block.block-index in
    let here : drop i c.args.f.now.blocks ≡ c.block-item.result ∷ drop (i + 1) c.args.f.now.blocks =
    ap (drop i) (sym c.as_slice-block-items.ensures)
    ∙ drop_more c.as_slice-block-items.result.now i c.block-item.result c.loop-block-test.true
    ∙ (λ j. sym c.block-item.is j ∷ drop (i + 1) (c.as_slice-block-items.ensures j)) in
    c.in_ok-pass.ensures c.args.f.now (drop (i + 1) c.args.f.now.blocks) refl (subst (λ (bs : List Block). IsAhead (bodies_in c.args.bodies.now) c.args.f.now c.loop-block.walker bs) here c.loop-block.invariant)
