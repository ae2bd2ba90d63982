use Rattle.std.proofs.Common.{ℕ, Option, Some, sym, ap, ◌∙◌}
use Rattle.ir_meaning.specs.Operate.{bit, compared_bits}
use Rattle.lto_bits.specs.Comparison.{compared as word_compared}
use Rattle.lto_bits.specs.declared.operator.Predicate.{Predicate as WordPredicate}
use Rattle.ir_meaning.proofs.operate.compare.Goals as goal

pub returns-in-Some-Some : goal.returns-in-Some-Some
returns-in-Some-Some c =
    ap bit c.compare-holds.ensures
    ∙ ap (λ (p : WordPredicate). bit (word_compared p c.args.width c.in-Some-Some.left c.in-Some-Some.right)) c.condition.ensures
    ∙ ap (λ (x : Option ℕ). compared_bits c.args.predicate c.args.width x (Some c.in-Some-Some.right)) (sym c.in-Some-Some.is-0)
    ∙ ap (λ (y : Option ℕ). compared_bits c.args.predicate c.args.width c.args.left y) (sym c.in-Some-Some.is-1)
