use Rattle.std.proofs.Common.{◌≡◌, ap, sym, subst, ◌∙◌}
use Rattle.ir_tree.specs.declared.operand.Reg.{Reg}
use Rattle.ir_meaning.specs.Execute.{compares}
use Rattle.ir_meaning.specs.Operate as operate
use Rattle.ir_meaning.specs.Pointers.{compared_pointers}
use Rattle.ir_meaning.specs.declared.value.Value.{Value as MeantValue}
use Rattle.ir_machine.specs.Meant.{meant}
use Rattle.ir_interp.specs.Locals.{IsValid, source_meant}
use Rattle.ir_interp.proofs.Plain.{plain_compared, plain_pointers, plain_valid}
use Rattle.ir_interp.proofs.registers.Registers.compare.Goals as goal

pub returns-in-Int : goal.returns-in-Int
returns-in-Int c = λ names meaning locals distinct s a k l.
    let left = c.value-left.ensures names c.args.memory.now meaning locals a k in
    let right = c.value-right.ensures names c.args.memory.now meaning locals a l in
    let width = c.in-Int.width in
    subst (λ (reg : Reg). (meant names c.compare_integers.result ≡ compares meaning c.args.choice c.args.predicate reg (source_meant names locals c.args.left) (source_meant names locals c.args.right)) × IsValid names c.args.memory.now meaning c.compare_integers.result)
    (sym c.in-Int.is) (
      c.compare_integers.ensures names
          ∙ ap (λ (v : MeantValue). operate.compared c.args.predicate width v (meant names c.value-right.result)) left.0
          ∙ ap (λ (v : MeantValue). operate.compared c.args.predicate width (source_meant names locals c.args.left) v) right.0,
      plain_valid names c.args.memory.now meaning c.compare_integers.result
          (operate.compared c.args.predicate width (meant names c.value-left.result) (meant names c.value-right.result))
          (c.compare_integers.ensures names)
          (plain_compared c.args.predicate width (operate.bits_of width (meant names c.value-left.result)) (operate.bits_of width (meant names c.value-right.result))),
    )

pub returns-in-Ptr : goal.returns-in-Ptr
returns-in-Ptr c = λ names meaning locals distinct s a k l.
    let left = c.value-left.ensures names c.args.memory.now meaning locals a k in
    let right = c.value-right.ensures names c.args.memory.now meaning locals a l in
    let value = c.compare_pointers.ensures names meaning distinct s.stands left.1.0 right.1.0 left.1.1 right.1.1 in
    subst (λ (reg : Reg). (meant names c.compare_pointers.result ≡ compares meaning c.args.choice c.args.predicate reg (source_meant names locals c.args.left) (source_meant names locals c.args.right)) × IsValid names c.args.memory.now meaning c.compare_pointers.result)
    (sym c.in-Ptr.is) (
      value
          ∙ ap (λ (v : MeantValue). compared_pointers meaning c.args.predicate v (meant names c.value-right.result) c.args.choice) left.0
          ∙ ap (λ (v : MeantValue). compared_pointers meaning c.args.predicate (source_meant names locals c.args.left) v c.args.choice) right.0,
      plain_valid names c.args.memory.now meaning c.compare_pointers.result
          (compared_pointers meaning c.args.predicate (meant names c.value-left.result) (meant names c.value-right.result) c.args.choice)
          value
          (plain_pointers meaning c.args.predicate (meant names c.value-left.result) (meant names c.value-right.result) c.args.choice),
    )
