use Rattle.std.proofs.Common.{ℕ, ◌∙◌, ap}
use Rattle.ir_tree.specs.declared.operand.Operand.{Operand}
use Rattle.fact_sources.proofs.LookedUp.{one_put}
use Rattle.fact_sources.proofs.substitution.Substitution.of.Goals as goal

pub loop-pair-preserved : goal.loop-pair-preserved
loop-pair-preserved c = λ x.
    one_put c.args.pairs.now c.loop-pair.pair-index c.pair-item.result x c.pair-item.result.0 c.pair-item.result.1 _ _ c.loop-pair-test.true
    (ap (λ (p : ℕ × Operand). p.0) c.pair-item.is) (ap (λ (p : ℕ × Operand). p.1) c.pair-item.is) (c.in_ok-put.ensures x)
    ∙ c.loop-pair.invariant x
