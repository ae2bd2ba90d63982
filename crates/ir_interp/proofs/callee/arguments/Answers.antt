use Rattle.std.proofs.Common.{◌≡◌, ℕ, suc, ◌+◌, List, take, sym, ap, subst, ◌∙◌, arith, take_all}
use Rattle.ir_tree.specs.declared.operand.Reg.TheVariants.{Int}
use Rattle.ir_machine.specs.declared.scalar.Scalar.{Scalar}
use Rattle.ir_interp.specs.Tasks.{values_meant}
use Rattle.ir_interp.specs.declared.source.Source.TheVariants.{Register}
use Rattle.ir_interp.specs.Calls.{AreValid, all_meant}
use Rattle.ir_interp.proofs.Passing.{argument_known, passed_more, valid_more, none_passed}
use Rattle.ir_interp.specs.declared.source.Typed.{Typed}
use Rattle.ir_interp.proofs.callee.arguments.Goals as goal

pub loop-argument-preserved : goal.loop-argument-preserved
loop-argument-preserved c = λ names m memory locals a k.
    let ts = c.args.arguments.now in
    let i = c.loop-argument.argument-index in
    let one : suc i ≡ i + 1 = omega arith in
    let old = c.loop-argument.invariant names m memory locals a k in
    let read = c.value.ensures names m memory locals a (argument_known names m memory ts i (record { reg = Int 0; source = Register 0 }) k c.loop-argument-test.true) in (
      ap (λ (vs : List Scalar). all_meant names vs) c.in_ok-push.ensures.items
          ∙ passed_more names locals ts i (record { reg = Int 0; source = Register 0 }) c.loop-argument.values.items c.value.result c.loop-argument-test.true old.0 read.0
          ∙ ap (λ (j : ℕ). values_meant names locals (take j ts)) one,
      subst (λ (vs : List Scalar). AreValid names m memory vs) (sym c.in_ok-push.ensures.items) (valid_more names m memory c.loop-argument.values.items c.value.result old.1 read.1),
    )

pub returns : goal.returns
returns c = λ names m memory locals a k.
    subst (λ (ts : List Typed). (all_meant names c.loop-argument.values.items ≡ values_meant names locals ts) × AreValid names m memory c.loop-argument.values.items)
    (take_all c.loop-argument.argument-index c.args.arguments.now (omega (arith, c.loop-argument-test.false))) (c.loop-argument.invariant names m memory locals a k)

pub loop-argument-init : goal.loop-argument-init
loop-argument-init c = λ names m memory locals a k. subst (λ (vs : List Scalar). (all_meant names vs ≡ values_meant names locals (take 0 c.args.arguments.now)) × AreValid names m memory vs) (sym c.in_ok-values.ensures.items) (sym (none_passed names locals c.args.arguments.now), tt)
