use Rattle.std.proofs.Common.{ℕ, ◌+◌, add-one, drop, sym, ap, ◌∙◌}
use Rattle.std.specs.BTreeMap.{get}
use Rattle.std.specs.Ordering.{nat_cmp}
use Rattle.ir_facts.specs.Scopes.{bars}
use Rattle.ir_facts.proofs.Walking.{block_passed, block_stops}
use Rattle.fact_sources.proofs.Stepping.{cut_at}
use Rattle.std.proofs.lemmas.List.{at_drop_all}
use Rattle.ir_facts.specs.Clear.{blocks_clear}
use Rattle.ir_facts.proofs.clear.blocks_clear.Goals as goal

pub loop-block-preserved : goal.loop-block-preserved
loop-block-preserved c =
    let scopes = c.args.scopes.now in
    let blocks = c.args.blocks.now in
    let i = c.loop-block.block-index in
    let place = c.loop-block.place in
    let block = c.block-item.result in
    record {
      at = ap (λ (n : ℕ). n + 1) c.loop-block.invariant.at;
      clear =
          block_passed (bars scopes) (get nat_cmp scopes.numbers) place (place + 1) block (drop (i + 1) blocks) (drop i blocks) (cut_at blocks i block c.loop-block-test.true c.block-item.is)
          (add-one place) (sym c.in_ok-clear.ensures ∙ c.if-not-clear.false)
          ∙ c.loop-block.invariant.clear;
    }

pub returns-then-not-clear : goal.returns-then-not-clear
returns-then-not-clear c =
    let scopes = c.args.scopes.now in
    let blocks = c.args.blocks.now in
    let i = c.loop-block.block-index in
    let block = c.block-item.result in
    block_stops (bars scopes) (get nat_cmp scopes.numbers) c.loop-block.place block (drop (i + 1) blocks) (drop i blocks) (cut_at blocks i block c.loop-block-test.true c.block-item.is)
    (sym c.in_ok-clear.ensures ∙ c.if-not-clear.true)
    ∙ c.loop-block.invariant.clear

pub returns : goal.returns
returns c =
    sym (at_drop_all (blocks_clear (bars c.args.scopes.now) (get nat_cmp c.args.scopes.now.numbers) c.loop-block.place) c.args.blocks.now c.loop-block.block-index c.loop-block-test.false)
    ∙ c.loop-block.invariant.clear
