use Rattle.std.proofs.Common.{false, subst}
use Rattle.ir_meaning.specs.Execute as meaning
use Rattle.ir_meaning.specs.declared.value.Value.{Value as MeantValue}
use Rattle.ir_machine.specs.Meant.{meant}
use Rattle.ir_machine.specs.Memories.{IsMemoryStored}
use Rattle.ir_machine.specs.declared.block.Stored.{Stored}
use Rattle.ir_machine.proofs.Holding.{on_err}
use Rattle.ir_interp.specs.Locals.{source_meant}
use Rattle.ir_interp.specs.Ran.{IsRan}
use Rattle.ir_interp.specs.declared.ran.Ran.TheVariants.{Undefined, Went}
use Rattle.ir_interp.proofs.SourcesKept.{keep_locals, store_memory}
use Rattle.ir_interp.proofs.Storing.{store_ran, store_refused}
use Rattle.ir_interp.proofs.line.store.Goals as goal

pub returns-in-Done-clause-ok : goal.returns-in-Done-clause-ok
returns-in-Done-clause-ok c = λ names memory locals local choice s a k l.
    let m = c.args.memory.now in
    let m' = c.store.new.self in
    let value = c.value-value.ensures names m memory locals a k in
    let address = c.value-address.ensures names m memory locals a l in
    let r = subst (λ (d : Stored). IsMemoryStored names m memory c.args.reg (meant names c.value-value.result) (meant names c.value-address.result) c.args.align m' d) c.in-Done.is (c.in_ok-stored.ensures.ok names memory s.stands address.1.0) in
    subst (λ (v : MeantValue). IsRan names m memory locals local choice (meaning.ToStore c.args.reg v (source_meant names locals c.args.address) c.args.align) m' c.args.registers.now (Went false)) value.0
    (subst (λ (v : MeantValue). IsRan names m memory locals local choice (meaning.ToStore c.args.reg (meant names c.value-value.result) v c.args.align) m' c.args.registers.now (Went false)) address.0
    (store_ran names m m' memory c.args.registers.now locals c.args.reg c.value-value.result (meant names c.value-address.result) local c.args.align choice s a value.1 c.store.ensures.held r))

pub returns-in-Undefined-clause-ok : goal.returns-in-Undefined-clause-ok
returns-in-Undefined-clause-ok c = λ names memory locals local choice s a k l.
    let m = c.args.memory.now in
    let m' = c.store.new.self in
    let cause = c.in-Undefined.cause in
    let value = c.value-value.ensures names m memory locals a k in
    let address = c.value-address.ensures names m memory locals a l in
    let r = subst (λ (d : Stored). IsMemoryStored names m memory c.args.reg (meant names c.value-value.result) (meant names c.value-address.result) c.args.align m' d) c.in-Undefined.is (c.in_ok-stored.ensures.ok names memory s.stands address.1.0) in
    subst (λ (v : MeantValue). IsRan names m memory locals local choice (meaning.ToStore c.args.reg v (source_meant names locals c.args.address) c.args.align) m' c.args.registers.now (Undefined cause)) value.0
    (subst (λ (v : MeantValue). IsRan names m memory locals local choice (meaning.ToStore c.args.reg (meant names c.value-value.result) v c.args.align) m' c.args.registers.now (Undefined cause)) address.0
    (store_refused names m m' memory c.args.registers.now locals c.args.reg c.value-value.result (meant names c.value-address.result) local c.args.align choice cause s a value.1 c.store.ensures.held r))

pub returns-in_err-stored-clause-err : goal.returns-in_err-stored-clause-err
returns-in_err-stored-clause-err c =
    on_err c.from_residual.result
    (λ names memory locals s a k.
    let m = c.args.memory.now in
    let m' = c.store.new.self in
    let value = c.value-value.ensures names m memory locals a k in
    let e = c.in_err-stored.ensures.err names memory s.stands in
    record {
      holds = store_memory names m memory m' memory c.value-value.result s e.0 e.1 value.1 c.store.ensures.held;
      reads = keep_locals names m memory m' memory c.args.registers.now locals e.1 a;
      keeps = e.1;
    })
