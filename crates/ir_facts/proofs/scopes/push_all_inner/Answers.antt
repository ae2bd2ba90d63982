use Rattle.std.proofs.Common.{◌+◌, refl, drop, nat_eq, ◌∙◌, subst, ℕ, List, ap, ◌++◌}
use Rattle.std.specs.HashSet.{contains}
use Rattle.ir_facts.specs.Askable.{BlocksHaveWidths}
use Rattle.ir_facts.proofs.Walking.{inner_pushed}
use Rattle.fact_sources.proofs.Stepping.{cut_at, walked}
use Rattle.ir_facts.specs.Clear.{all_inner}
use Rattle.ir_facts.proofs.Clearing.{inner_is}
use Rattle.ir_facts.proofs.scopes.push_all_inner.Goals as goal

pub returns : goal.returns
returns c =
    walked (all_inner (contains nat_eq c.args.outside.now)) c.args.blocks.now c.loop-block.block-index c.loop-block.keys.items refl c.loop-block-test.false
    ∙ c.loop-block.invariant.keys

pub push_among-requires : goal.push_among-requires
push_among-requires c = record {
  sized = (subst BlocksHaveWidths (cut_at c.args.blocks.now c.loop-block.block-index c.block-item.result c.loop-block-test.true c.block-item.is) c.loop-block.invariant.sized).0;
}

pub loop-block-preserved : goal.loop-block-preserved
loop-block-preserved c =
    let among = contains nat_eq c.args.outside.now in
    let blocks = c.args.blocks.now in
    let i = c.loop-block.block-index in
    let block = c.block-item.result in
    let old = c.loop-block.keys.items in
    let cut = cut_at blocks i block c.loop-block-test.true c.block-item.is in
    record {
      sized = (subst BlocksHaveWidths cut c.loop-block.invariant.sized).1;
      keys =
          inner_pushed among block (drop (i + 1) blocks) (drop i blocks) old c.push_among.new.keys.items cut
          (c.in_ok-push_among.ensures ∙ ap (λ (xs : List ℕ). old ++ xs) (inner_is among (contains nat_eq c.in_ok-own.own) block c.in_ok-own.ensures))
          ∙ c.loop-block.invariant.keys;
    }
