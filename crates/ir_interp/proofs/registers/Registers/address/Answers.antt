use Rattle.std.proofs.Common.{◌≡◌, ℕ, Option, sym, ap, subst, ◌∙◌}
use Rattle.ir_meaning.specs.Address.{address_of, pointer_or_poison}
use Rattle.ir_meaning.specs.declared.value.Value.{Value as MeantValue}
use Rattle.ir_meaning.specs.declared.value.Value.TheVariants as value
use Rattle.ir_machine.specs.Meant.{base_meant, meant}
use Rattle.ir_machine.specs.Memories.{IsBase}
use Rattle.ir_machine.specs.Names.{IsNamed}
use Rattle.ir_machine.specs.declared.scalar.Scalar.{Scalar}
use Rattle.ir_interp.specs.Locals.{IsValid, source_meant}
use Rattle.ir_interp.specs.Tasks.{indices_meant, offset_by}
use Rattle.ir_interp.proofs.Walking.{address_is}
use Rattle.ir_interp.proofs.registers.Registers.address.Goals as goal

pub returns-clause-value : goal.returns-clause-value
returns-clause-value c = λ names m memory locals a k l.
    let p = c.in-Pointer.pointer in
    let shape = c.args.shape.now in
    let is = indices_meant names locals c.args.indices.now in
    let base = c.value.ensures names m memory locals a k in
    let at : value.Pointer (base_meant names p.base) p.offset ≡ source_meant names locals c.args.base = sym (ap (λ (v : Scalar). meant names v) c.in-Pointer.is) ∙ base.0 in
    let valid : IsBase m memory p.base × IsNamed names p.base = subst (λ (v : Scalar). IsValid names m memory v) c.in-Pointer.is base.1 in
    c.pointer_or_poison.ensures.value names
    ∙ ap (λ (o : Option ℕ). pointer_or_poison (base_meant names p.base) o) (c.offset_by-offset.ensures names m memory locals a l)
    ∙ ap (λ (n : ℕ). pointer_or_poison (base_meant names p.base) (offset_by c.args.inbounds shape n p.offset is)) (c.object_size-size.ensures names m memory valid.0)
    ∙ address_is memory c.args.inbounds shape (base_meant names p.base) p.offset is
    ∙ ap (λ (v : MeantValue). address_of memory c.args.inbounds shape v is) at

pub returns-clause-valid : goal.returns-clause-valid
returns-clause-valid c = λ names m memory locals a k.
    let p = c.in-Pointer.pointer in
    let base = c.value.ensures names m memory locals a k in
    let valid : IsBase m memory p.base × IsNamed names p.base = subst (λ (v : Scalar). IsValid names m memory v) c.in-Pointer.is base.1 in
    c.pointer_or_poison.ensures.valid names m memory valid.0 valid.1
