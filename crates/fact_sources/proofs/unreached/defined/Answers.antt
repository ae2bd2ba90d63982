use Rattle.std.proofs.Common.{false, ◌++◌, ◌∙◌, ap}
use Rattle.ir_tree.specs.Flow.{definitions}
use Rattle.fact_sources.specs.Apart.{given_where, is_listed}
use Rattle.fact_sources.proofs.Outside.{given_is, listed_is}
use Rattle.fact_sources.proofs.unreached.defined.Goals as goal

pub returns : goal.returns
returns c = λ x.
    c.in_ok-set.ensures x
    ∙ ap (is_listed x) (c.deref.ensures.value ∙ c.in_ok-push_block.ensures ∙ (λ i. c.new-locals.ensures.items i ++ given_where false c.args.block.now) ∙ given_is c.args.block.now)
    ∙ listed_is x (definitions c.args.block.now)
