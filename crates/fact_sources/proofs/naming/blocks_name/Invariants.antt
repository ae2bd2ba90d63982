use Rattle.std.proofs.Common.{◌≡◌, drop}
use Rattle.fact_sources.specs.Naming.{blocks_name}
use Rattle.fact_sources.proofs.naming.blocks_name.Given as goal

abbrev pub invariant-loop-block : goal.invariant-loop-block
invariant-loop-block g l = blocks_name (g.L.Locals.members l.among) (drop l.block-index l.blocks) ≡ blocks_name (g.L.Locals.members l.among) l.blocks
