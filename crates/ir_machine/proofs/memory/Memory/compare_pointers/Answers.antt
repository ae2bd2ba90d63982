use Rattle.std.proofs.Common.{ap, subst, sym, ◌∙◌}
use Rattle.ir_meaning.specs.Pointers as pointers
use Rattle.ir_machine.specs.Meant.{meant}
use Rattle.ir_machine.specs.Memories.{IsScalar}
use Rattle.ir_machine.specs.Names.{IsNamedScalar}
use Rattle.ir_machine.specs.declared.scalar.Scalar.{Scalar}
use Rattle.ir_machine.proofs.memory.Memory.compare_pointers.Goals as goal

pub returns-in-Pointer-Pointer : goal.returns-in-Pointer-Pointer
returns-in-Pointer-Pointer c = λ names memory distinct s l r f g.
    let e = c.settled.ensures names memory distinct s
    (subst (λ (v : Scalar). IsScalar c.args.self.now memory v) c.in-Pointer-Pointer.is-0 l) (subst (λ (v : Scalar). IsScalar c.args.self.now memory v) c.in-Pointer-Pointer.is-1 r)
    (subst (λ (v : Scalar). IsNamedScalar names v) c.in-Pointer-Pointer.is-0 f) (subst (λ (v : Scalar). IsNamedScalar names v) c.in-Pointer-Pointer.is-1 g) in
    c.chosen.ensures names ∙ ap (λ (o : _). pointers.chosen o c.args.choice) e
    ∙ ap (λ (v : Scalar). pointers.compared_pointers memory c.args.predicate (meant names v) (meant names (Rattle.ir_machine.specs.declared.scalar.Scalar.TheVariants.Pointer c.in-Pointer-Pointer.right)) c.args.choice) (sym c.in-Pointer-Pointer.is-0)
    ∙ ap (λ (v : Scalar). pointers.compared_pointers memory c.args.predicate (meant names c.args.left) (meant names v) c.args.choice) (sym c.in-Pointer-Pointer.is-1)
