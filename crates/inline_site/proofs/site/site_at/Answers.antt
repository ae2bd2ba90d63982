use Rattle.std.proofs.Common.{◌≡◌, ◌+◌, List, Some, length, take, refl, sym, ◌∙◌, ap, arith}
use Rattle.std.specs.Prelude.{slice_get}
use Rattle.std.proofs.lemmas.List.{get_or_default, take_all}
use Rattle.std.proofs.lemmas.Option.{slice_get_read}
use Rattle.ir_tree.specs.declared.block.Block.{Block}
use Rattle.inline_site.specs.Sites.{counted_in}
use Rattle.inline_site.proofs.Standing.{counted_next, in_block, none_past, stands}
use Rattle.inline_site.proofs.site.site_at.Goals as goal

pub returns-then-left-phis : goal.returns-then-left-phis
returns-then-left-phis c = λ s h.
    let at : slice_get c.args.blocks.now c.loop-block.block ≡ Some c.index-blocks-block.result = slice_get_read c.args.blocks.now (length c.args.blocks.now) c.loop-block.block c.index-blocks-block.result refl c.loop-block-test.true c.index-blocks-block.is in
    let phis = ap (λ (b : Block). length b.phis) c.index-blocks-block.is in
    let k = in_block c.args.blocks.now c.args.place c.loop-block.block c.loop-block.left c.index-blocks-block.result c.loop-block.invariant.here at c.loop-block.invariant.some
    (omega (arith, c.if-left-phis.true, c.len-phis.ensures, phis)) s h in
    omega (arith, k.0, c.if-left-phis.true, c.len-phis.ensures, phis)

pub parts-requires-clause-line : goal.parts-requires-clause-line
parts-requires-clause-line c = λ b e.
    let at : slice_get c.args.blocks.now c.loop-block.block ≡ Some c.index-blocks-block-in-loop-block.result =
    slice_get_read c.args.blocks.now (length c.args.blocks.now) c.loop-block.block c.index-blocks-block-in-loop-block.result refl c.loop-block-test.true c.index-blocks-block-in-loop-block.is in
    let same : c.index-blocks-block-in-loop-block.result ≡ b = cc (at, e) in
    let lines = ap (λ (x : Block). length x.lines) c.index-blocks-block-in-loop-block.is in
    let many = ap (λ (x : Block). length x.lines) same in
    omega (arith, c.if-left-phis.false, c.if-behind_phis-lines.true, c.len-lines.ensures, lines, many)

pub returns-then-behind_phis-lines : goal.returns-then-behind_phis-lines
returns-then-behind_phis-lines c =
    let at : slice_get c.args.blocks.now c.loop-block.block ≡ Some c.index-blocks-block.result = slice_get_read c.args.blocks.now (length c.args.blocks.now) c.loop-block.block c.index-blocks-block.result refl c.loop-block-test.true c.index-blocks-block.is in
    let phis = ap (λ (b : Block). length b.phis) c.index-blocks-block.is in
    stands c.args.blocks.now c.args.place c.loop-block.block c.loop-block.left _ c.index-blocks-block.result c.loop-block.invariant.here at (omega (arith, c.if-left-phis.false, c.len-phis.ensures, phis)) _ c.parts.ensures

pub returns-then-behind_phis-lines-eq1 : goal.returns-then-behind_phis-lines-eq1
returns-then-behind_phis-lines-eq1 c = λ s h.
    let at : slice_get c.args.blocks.now c.loop-block.block ≡ Some c.index-blocks-block.result = slice_get_read c.args.blocks.now (length c.args.blocks.now) c.loop-block.block c.index-blocks-block.result refl c.loop-block-test.true c.index-blocks-block.is in
    let phis = ap (λ (b : Block). length b.phis) c.index-blocks-block.is in
    let two : c.index-blocks-block.result ≡ c.index-blocks-block-in-loop-block.result =
    c.index-blocks-block.is ∙ get_or_default c.args.blocks.now c.loop-block.block c.index-blocks-block.result c.index-blocks-block-in-loop-block.result c.loop-block-test.true ∙ sym c.index-blocks-block-in-loop-block.is in
    let lines = ap (λ (b : Block). length b.lines) c.index-blocks-block-in-loop-block.is in
    let many = ap (λ (b : Block). length b.lines) two in
    let k = in_block c.args.blocks.now c.args.place c.loop-block.block c.loop-block.left c.index-blocks-block.result c.loop-block.invariant.here at c.loop-block.invariant.some
    (omega (arith, c.if-left-phis.false, c.if-behind_phis-lines-eq1.true, c.len-phis.ensures, c.len-lines.ensures, phis, lines, many)) s h in
    omega (arith, k.1, c.if-left-phis.false, c.if-behind_phis-lines-eq1.true, c.len-phis.ensures, c.len-lines.ensures, phis, lines, many)

pub loop-block-preserved : goal.loop-block-preserved
loop-block-preserved c =
    let phis = ap (λ (b : Block). length b.phis) c.index-blocks-block.is in
    let two : c.index-blocks-block.result ≡ c.index-blocks-block-in-loop-block.result =
    c.index-blocks-block.is ∙ get_or_default c.args.blocks.now c.loop-block.block c.index-blocks-block.result c.index-blocks-block-in-loop-block.result c.loop-block-test.true ∙ sym c.index-blocks-block-in-loop-block.is in
    let lines = ap (λ (b : Block). length b.lines) c.index-blocks-block-in-loop-block.is in
    let many = ap (λ (b : Block). length b.lines) two in
    let next = counted_next c.args.blocks.now c.loop-block.block c.index-blocks-block.result c.loop-block-test.true c.index-blocks-block.is in
    let here : c.args.place ≡ counted_in (take c.loop-block.block c.args.blocks.now) + c.loop-block.left = c.loop-block.invariant.here in
    record {
      here = omega (arith, here, next, c.if-left-phis.false, c.if-behind_phis-lines.false, c.if-behind_phis-lines-eq1.false, c.len-phis.ensures, c.len-lines.ensures, phis, lines, many);
      some = omega (arith, c.if-left-phis.false, c.if-behind_phis-lines.false, c.if-behind_phis-lines-eq1.false);
    }

pub returns : goal.returns
returns c =
    none_past c.args.blocks.now c.args.place c.loop-block.left (c.loop-block.invariant.here ∙ ap (λ (l : List Block). counted_in l + c.loop-block.left) (take_all c.loop-block.block c.args.blocks.now c.loop-block-test.false))
    c.loop-block.invariant.some
