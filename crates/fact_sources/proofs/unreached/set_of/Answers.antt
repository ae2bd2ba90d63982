use Rattle.std.proofs.Common.{nat_eq, get_or, refl, ◌∙◌}
use Rattle.std.proofs.lemmas.List.{get_or_default}
use Rattle.std.specs.HashSet.{contains}
use Rattle.fact_sources.specs.Apart.{is_listed}
use Rattle.fact_sources.proofs.Stepping.{none_more, put_in}
use Rattle.fact_sources.proofs.unreached.set_of.Goals as goal

pub loop-local-preserved : goal.loop-local-preserved
loop-local-preserved c = λ x.
    put_in (is_listed x) c.args.locals.now c.loop-local.local-index (get_or c.args.locals.now c.loop-local.local-index 0) _ (contains nat_eq c.loop-local.set x) (contains nat_eq c.insert.new.self x)
    c.loop-local-test.true (get_or_default c.args.locals.now c.loop-local.local-index 0 _ c.loop-local-test.true) refl (c.in_ok-insert.ensures.updates.0 x)
    ∙ c.loop-local.invariant x

pub returns : goal.returns
returns c = λ x. none_more (is_listed x) c.args.locals.now c.loop-local.local-index (contains nat_eq c.loop-local.set x) refl c.loop-local-test.false ∙ c.loop-local.invariant x
