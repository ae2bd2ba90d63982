use Rattle.std.proofs.Common.{◌≡◌, Some, sym, ap, subst, ◌∙◌}
use Rattle.ir_meaning.specs.declared.value.Base.TheVariants.{Cell}
use Rattle.ir_meaning.specs.declared.value.Value.{Value as MeantValue}
use Rattle.ir_meaning.specs.declared.value.Value.TheVariants as value
use Rattle.ir_machine.specs.Meant.{base_meant, meant}
use Rattle.ir_machine.specs.Memories.{IsMemoryStored}
use Rattle.ir_machine.specs.declared.block.Block.{Block}
use Rattle.ir_machine.specs.declared.scalar.Base.{Base}
use Rattle.ir_machine.specs.declared.scalar.Scalar.{Scalar}
use Rattle.ir_machine.proofs.Holding.{memory_stored, on_err, unchanged}
use Rattle.ir_machine.proofs.memory.Memory.store.Goals as goal

pub returns-in_err-stored-clause-err : goal.returns-in_err-stored-clause-err
returns-in_err-stored-clause-err c =
    let e = c.in_err-stored.ensures.err in
    on_err c.from_residual.result (λ names memory s. unchanged names c.args.self.now memory c.in-Block.handle.position e.0 e.1.0 c.store_at.new.self s e.1.1.0 (e.1.1.1 names))

pub returns-in_ok-stored-clause-ok : goal.returns-in_ok-stored-clause-ok
returns-in_ok-stored-clause-ok c = λ names memory s k.
    let e = c.in_ok-stored.ensures.ok in
    let y = c.lives.ensures.yes c.if-lives.true in
    let both : Some e.0 ≡ Some y.0 = sym e.1.1.0.there ∙ y.1.0 in
    let one : e.0 ≡ y.0 = cc both in
    let at : meant names c.args.address ≡ value.Pointer (Cell c.in-Block.handle.number) c.in-Pointer.pointer.offset =
    ap (λ (a : Scalar). meant names a) c.in-Pointer.is ∙ ap (λ (b : Base). value.Pointer (base_meant names b) c.in-Pointer.pointer.offset) c.in-Block.is in
    subst (λ (v : MeantValue). IsMemoryStored names c.args.self.now memory c.args.reg (meant names c.args.value) v c.args.align c.store_at.new.self c.in_ok-stored.stored) (sym at)
    (memory_stored names c.args.self.now memory c.in-Block.handle.position c.in-Block.handle.number e.0 e.1.0 c.store_at.new.self c.args.reg (meant names c.args.value) c.in-Pointer.pointer.offset c.args.align c.in_ok-stored.stored
    s (ap (λ (b : Block). b.number) one ∙ y.1.1) e.1.1.0 (e.1.1.1 names))
