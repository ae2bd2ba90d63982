use Rattle.std.proofs.Common.{◌∙◌, ℕ, List, ◌++◌, map, sym, ap, append-nil, arith}
use Rattle.ir_interp.proofs.Begun.{one_more}
use Rattle.std.proofs.lemmas.List.{drop_all}
use Rattle.ir_machine.specs.declared.scalar.Scalar.TheVariants.{Number}
use Rattle.ir_interp.proofs.machine.values_of.Goals as goal

pub loop-number-preserved : goal.loop-number-preserved
loop-number-preserved c =
    one_more c.args.numbers.now c.loop-number.number-index _ c.loop-number.values.items c.push.new.self.items c.loop-number-test.true c.in_ok-push.ensures.items ∙ c.loop-number.invariant

pub returns : goal.returns
returns c =
    let vs = c.loop-number.values.items in
    sym (append-nil vs) ∙ sym (ap (λ (l : List ℕ). vs ++ map Number l) (drop_all c.loop-number.number-index c.args.numbers.now (omega (arith, c.loop-number-test.false)))) ∙ c.loop-number.invariant
