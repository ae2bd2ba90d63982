use Rattle.std.proofs.Common.{refl, sym, ◌∙◌}
use Rattle.std.proofs.lemmas.List.{at_drop_all}
use Rattle.fact_sources.specs.Naming.{blocks_name}
use Rattle.fact_sources.proofs.Stepping.{met, passed}
use Rattle.fact_sources.proofs.naming.blocks_name.Goals as goal

pub loop-block-preserved : goal.loop-block-preserved
loop-block-preserved g c = passed (blocks_name (g.L.Locals.members c.args.among.now)) c.args.blocks.now c.loop-block.block-index c.block-item.result _ c.loop-block-test.true c.block-item.is refl (sym c.block_names.ensures ∙ c.if-block_names.false) ∙ c.loop-block.invariant

pub returns-then-block_names : goal.returns-then-block_names
returns-then-block_names g c = met (blocks_name (g.L.Locals.members c.args.among.now)) c.args.blocks.now c.loop-block.block-index c.block-item.result _ c.loop-block-test.true c.block-item.is refl (sym c.block_names.ensures ∙ c.if-block_names.true) ∙ c.loop-block.invariant

pub returns : goal.returns
returns g c = sym (at_drop_all (blocks_name (g.L.Locals.members c.args.among.now)) c.args.blocks.now c.loop-block.block-index c.loop-block-test.false) ∙ c.loop-block.invariant
