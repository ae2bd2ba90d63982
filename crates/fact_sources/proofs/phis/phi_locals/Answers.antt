use Rattle.std.proofs.Common.{nat_eq, refl, ◌∙◌}
use Rattle.std.specs.HashSet.{contains}
use Rattle.ir_meaning.specs.Facts.{is_phi}
use Rattle.fact_sources.proofs.Stepping.{none_more, put_in}
use Rattle.fact_sources.proofs.phis.phi_locals.Goals as goal

pub loop-phi-preserved : goal.loop-phi-preserved
loop-phi-preserved c = λ x.
    put_in (is_phi x) c.args.phis.now c.loop-phi.phi-index c.phi-item.result (nat_eq c.phi-item.result.local x) (contains nat_eq c.loop-phi.set x) (contains nat_eq c.insert.new.self x)
    c.loop-phi-test.true c.phi-item.is refl (c.in_ok-insert.ensures.updates.0 x)
    ∙ c.loop-phi.invariant x

pub returns : goal.returns
returns c = λ x. none_more (is_phi x) c.args.phis.now c.loop-phi.phi-index (contains nat_eq c.loop-phi.set x) refl c.loop-phi-test.false ∙ c.loop-phi.invariant x
