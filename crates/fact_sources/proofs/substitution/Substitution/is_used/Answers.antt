use Rattle.std.proofs.Common.{sym, ◌∙◌}
use Rattle.std.specs.Prelude.{is_some}
use Rattle.fact_sources.specs.Naming.{blocks_name}
use Rattle.fact_sources.proofs.NoneNamed.{blocks_none}
use Rattle.fact_sources.proofs.substitution.Substitution.is_used.Goals as goal

pub returns-then-none : goal.returns-then-none
returns-then-none c = sym ((λ i. blocks_name (λ x. is_some (c.is_empty-none.ensures c.if-none.true x i)) c.args.blocks.now) ∙ blocks_none c.args.blocks.now)
