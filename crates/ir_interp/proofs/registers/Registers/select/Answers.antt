use Rattle.std.proofs.Common.{inl, inr, ap, sym, subst, ◌∙◌}
use Rattle.ir_meaning.specs.Operate as operate
use Rattle.ir_meaning.specs.declared.value.Value.{Value as MeantValue}
use Rattle.ir_machine.specs.Meant.{meant}
use Rattle.ir_machine.specs.declared.scalar.Scalar.{Scalar}
use Rattle.ir_interp.specs.Locals.{IsValid, source_meant}
use Rattle.ir_interp.proofs.registers.Registers.select.Goals as goal

pub returns : goal.returns
returns c = λ names m memory locals a k l n.
    let condition = c.value-condition.ensures names m memory locals a k in
    let first = c.value-if_true.ensures names m memory locals a l in
    let second = c.value-if_false.ensures names m memory locals a n in
    let r = c.select.result in (
      c.select.ensures.value names
          ∙ ap (λ (v : MeantValue). operate.selected v (meant names c.value-if_true.result) (meant names c.value-if_false.result)) condition.0
          ∙ ap (λ (v : MeantValue). operate.selected (source_meant names locals c.args.condition) v (meant names c.value-if_false.result)) first.0
          ∙ ap (λ (v : MeantValue). operate.selected (source_meant names locals c.args.condition) (source_meant names locals c.args.if_true) v) second.0,
      elim c.select.ensures.chosen [
        | inl e ↦ subst (λ (v : Scalar). IsValid names m memory v) (sym e) first.1
        | inr (inl e) ↦ subst (λ (v : Scalar). IsValid names m memory v) (sym e) second.1
        | inr (inr e) ↦ subst (λ (v : Scalar). IsValid names m memory v) (sym e) (tt, tt)
      ],
    )
