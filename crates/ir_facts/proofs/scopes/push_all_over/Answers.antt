use Rattle.std.proofs.Common.{◌≡◌, refl, suc, ◌+◌, ◌∷◌, drop, sym, ap, ◌∙◌, subst, arith}
use Rattle.std.proofs.Math.Seq.{drop-cons}
use Rattle.std.specs.BTreeMap.{get}
use Rattle.std.specs.Ordering.{nat_cmp}
use Rattle.ir_tree.specs.declared.block.Block.{Block}
use Rattle.ir_flow.specs.Dominating.{dominance}
use Rattle.fact_sources.specs.Above.{is_above}
use Rattle.ir_facts.specs.Askable.{BlocksHaveWidths}
use Rattle.ir_facts.proofs.Clearing.{over_pushed}
use Rattle.ir_facts.specs.Clear.{all_over}
use Rattle.fact_sources.proofs.Stepping.{walked, cut_at}
use Rattle.ir_facts.proofs.scopes.push_all_over.Goals as goal

pub loop-block-preserved : goal.loop-block-preserved
loop-block-preserved c =
    let blocks = c.args.blocks.now in
    let i = c.loop-block.block-index in
    let block = c.block-item.result in
    let one : suc i ≡ i + 1 = omega arith in
    let next : c.loop-block.place + 1 ≡ suc c.loop-block.place = omega arith in
    let cut = drop-cons blocks i block c.loop-block-test.true ∙ ap (λ (b : Block). b ∷ drop (suc i) blocks) (sym c.block-item.is) ∙ ap (λ j. block ∷ drop j blocks) one in
    record {
      sized = (subst BlocksHaveWidths cut c.loop-block.invariant.sized).1;
      at = (let same = c.loop-block.invariant.at in omega (arith, same));
      keys =
          over_pushed (get nat_cmp c.args.places.now) (is_above (dominance c.args.above.now)) c.loop-block.place (c.loop-block.place + 1) block (drop (i + 1) blocks) (drop i blocks)
          c.loop-block.keys.items c.push_among.new.keys.items cut next c.in_ok-push_among.ensures
          ∙ c.loop-block.invariant.keys;
    }

pub returns : goal.returns
returns c =
    walked (all_over (get nat_cmp c.args.places.now) (is_above (dominance c.args.above.now)) c.loop-block.place) c.args.blocks.now c.loop-block.block-index c.loop-block.keys.items refl
    c.loop-block-test.false
    ∙ c.loop-block.invariant.keys

pub push_among-requires : goal.push_among-requires
push_among-requires c = record {
  sized = (subst BlocksHaveWidths (cut_at c.args.blocks.now c.loop-block.block-index c.block-item.result c.loop-block-test.true c.block-item.is) c.loop-block.invariant.sized).0;
}
