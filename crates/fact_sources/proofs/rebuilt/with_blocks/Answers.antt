use Rattle.fact_sources.proofs.rebuilt.with_blocks.Goals as goal

pub returns : goal.returns
returns c = λ i. record c.args.f.now { symbol = c.in_ok-symbol.ensures i; params = c.in_ok-params.ensures i; blocks = c.args.blocks }
