use Rattle.std.proofs.Common.{◌≡◌, ℕ, suc, ◌+◌, length, take, subst, ◌∙◌, arith, List, take_all}
use Rattle.ir_interp.specs.Entering.{ParamsFit}
use Rattle.ir_interp.proofs.Entering.{fit_more}
use Rattle.ir_interp.proofs.entry.unwritten.Goals as goal

pub loop-param-preserved : goal.loop-param-preserved
loop-param-preserved c =
    let i = c.loop-param.param-index in
    let one : suc i ≡ i + 1 = omega arith in
    record {
      unwritten = λ x. c.reserve.ensures.same x ∙ c.loop-param.invariant.unwritten x;
      room = subst (λ (k : ℕ). ParamsFit (length c.reserve.new.self.cells.items) (take k c.args.params.now)) one
          (fit_more (length c.loop-param.registers.cells.items) (length c.reserve.new.self.cells.items) c.args.params.now i c.reserve.ensures.longer c.loop-param-test.true c.in_ok-reserve.ensures.room c.loop-param.invariant.room);
    }

pub returns-clause-room : goal.returns-clause-room
returns-clause-room c =
    subst (λ (xs : List ℕ). ParamsFit (length c.loop-param.registers.cells.items) xs) (take_all c.loop-param.param-index c.args.params.now (omega (arith, c.loop-param-test.false))) c.loop-param.invariant.room
