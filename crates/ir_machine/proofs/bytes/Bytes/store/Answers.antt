use Rattle.std.proofs.Common.{◌≡◌, ◌⊎◌, sym, subst}
use Rattle.ir_machine.specs.Origins.{Holds}
use Rattle.ir_machine.specs.declared.scalar.Scalar.{Scalar}
use Rattle.ir_machine.specs.declared.scalar.Scalar.TheVariants as scalar
use Rattle.ir_machine.proofs.bytes.Bytes.store.Goals as goal

pub returns-in-Ptr-Pointer-clause-held : goal.returns-in-Ptr-Pointer-clause-held
returns-in-Ptr-Pointer-clause-held c = λ p h.
    subst (λ (v : Scalar). Holds c.args.self.now p ⊎ (v ≡ scalar.Pointer p)) (sym c.in-Ptr-Pointer.is-1) (c.store_pointer.ensures.held p h)
