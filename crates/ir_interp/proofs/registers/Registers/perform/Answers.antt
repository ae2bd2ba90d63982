use Rattle.std.proofs.Common.{List, refl, sym, ap, subst, ◌∙◌}
use Rattle.ir_meaning.specs.Access as access
use Rattle.ir_meaning.specs.Address.{address_of}
use Rattle.ir_meaning.specs.Execute.{compares}
use Rattle.ir_meaning.specs.Operate as operate
use Rattle.ir_meaning.specs.declared.value.Value.TheVariants as value
use Rattle.ir_machine.specs.declared.outcome.Outcome.TheVariants as outcome
use Rattle.ir_machine.specs.declared.scalar.Scalar.TheVariants as scalar
use Rattle.ir_interp.specs.Locals.{AreKnown, source_meant}
use Rattle.ir_interp.specs.Tasks.{IsComputeKnown, compute_meant, indices_meant, CanCompute}
use Rattle.ir_interp.specs.declared.source.Typed.{Typed}
use Rattle.ir_interp.specs.declared.task.Compute.{Compute}
use Rattle.ir_interp.specs.declared.task.Compute.TheVariants as compute
use Rattle.ir_interp.proofs.Performing.{answer_given, as_this, value_given}
use Rattle.std.specs.Prelude.{All}
use Rattle.ir_machine.specs.Marks.{HasWidth}
use Rattle.ir_interp.proofs.registers.Registers.perform.Goals as goal

pub returns-in-Binary : goal.returns-in-Binary
returns-in-Binary c = λ names memory locals distinct s a k.
    let m = c.args.memory.now in
    let known = subst (λ (t : Compute). IsComputeKnown names m memory t) c.in-Binary.is k in
    as_this names m memory locals c.args.choice c.args.task.now (compute.Binary c.in-Binary.op c.in-Binary.flags c.in-Binary.width c.in-Binary.left c.in-Binary.right) c.binary.result c.in-Binary.is
    (answer_given names m memory c.args.choice (compute_meant names locals (compute.Binary c.in-Binary.op c.in-Binary.flags c.in-Binary.width c.in-Binary.left c.in-Binary.right))
    (operate.binary c.in-Binary.op c.in-Binary.flags c.in-Binary.width (source_meant names locals c.in-Binary.left) (source_meant names locals c.in-Binary.right)) c.binary.result (λ sig input place. refl)
    (c.binary.ensures.value names m memory locals a known.0 known.1) (c.binary.ensures.valid names m memory))

pub returns-in-Load : goal.returns-in-Load
returns-in-Load c = λ names memory locals distinct s a k.
    let m = c.args.memory.now in
    let known = subst (λ (t : Compute). IsComputeKnown names m memory t) c.in-Load.is k in
    let loaded = c.load.ensures names memory locals s a known in
    as_this names m memory locals c.args.choice c.args.task.now (compute.Load c.in-Load.reg c.in-Load.address c.in-Load.align) c.load.result c.in-Load.is
    (answer_given names m memory c.args.choice (compute_meant names locals (compute.Load c.in-Load.reg c.in-Load.address c.in-Load.align))
    (access.load memory c.in-Load.reg (source_meant names locals c.in-Load.address) c.in-Load.align) c.load.result (λ sig input place. refl) loaded.0 loaded.1)

pub returns-in-Compare : goal.returns-in-Compare
returns-in-Compare c = λ names memory locals distinct s a k.
    let m = c.args.memory.now in
    let known = subst (λ (t : Compute). IsComputeKnown names m memory t) c.in-Compare.is k in
    let compared = c.compare.ensures names memory locals distinct s a known.0 known.1 in
    as_this names m memory locals c.args.choice c.args.task.now (compute.Compare c.in-Compare.predicate c.in-Compare.reg c.in-Compare.left c.in-Compare.right) (outcome.Value c.compare.result) c.in-Compare.is
    (value_given names m memory c.args.choice (compute_meant names locals (compute.Compare c.in-Compare.predicate c.in-Compare.reg c.in-Compare.left c.in-Compare.right))
    (compares memory c.args.choice c.in-Compare.predicate c.in-Compare.reg (source_meant names locals c.in-Compare.left) (source_meant names locals c.in-Compare.right)) c.compare.result (λ sig input place. refl) compared.0 compared.1)

pub returns-in-Cast : goal.returns-in-Cast
returns-in-Cast c = λ names memory locals distinct s a k.
    let m = c.args.memory.now in
    let known = subst (λ (t : Compute). IsComputeKnown names m memory t) c.in-Cast.is k in
    as_this names m memory locals c.args.choice c.args.task.now (compute.Cast c.in-Cast.op c.in-Cast.from c.in-Cast.to c.in-Cast.value) (outcome.Value c.cast.result) c.in-Cast.is
    (value_given names m memory c.args.choice (compute_meant names locals (compute.Cast c.in-Cast.op c.in-Cast.from c.in-Cast.to c.in-Cast.value))
    (operate.cast c.in-Cast.op c.in-Cast.from c.in-Cast.to (source_meant names locals c.in-Cast.value)) c.cast.result (λ sig input place. refl)
    (c.cast.ensures.value names m memory locals a known) (c.cast.ensures.valid names m memory))

pub returns-in-Select : goal.returns-in-Select
returns-in-Select c = λ names memory locals distinct s a k.
    let m = c.args.memory.now in
    let known = subst (λ (t : Compute). IsComputeKnown names m memory t) c.in-Select.is k in
    let selected = c.select.ensures names m memory locals a known.0 known.1 known.2 in
    as_this names m memory locals c.args.choice c.args.task.now (compute.Select c.in-Select.condition c.in-Select.if_true c.in-Select.if_false) (outcome.Value c.select.result) c.in-Select.is
    (value_given names m memory c.args.choice (compute_meant names locals (compute.Select c.in-Select.condition c.in-Select.if_true c.in-Select.if_false))
    (operate.selected (source_meant names locals c.in-Select.condition) (source_meant names locals c.in-Select.if_true) (source_meant names locals c.in-Select.if_false)) c.select.result (λ sig input place. refl) selected.0 selected.1)

pub returns-in-Freeze : goal.returns-in-Freeze
returns-in-Freeze c = λ names memory locals distinct s a k.
    let m = c.args.memory.now in
    let known = subst (λ (t : Compute). IsComputeKnown names m memory t) c.in-Freeze.is k in
    as_this names m memory locals c.args.choice c.args.task.now (compute.Freeze c.in-Freeze.reg c.in-Freeze.value) (outcome.Value c.freeze.result) c.in-Freeze.is
    (value_given names m memory c.args.choice (compute_meant names locals (compute.Freeze c.in-Freeze.reg c.in-Freeze.value))
    (operate.frozen c.in-Freeze.reg c.args.choice (source_meant names locals c.in-Freeze.value)) c.freeze.result (λ sig input place. refl)
    (c.freeze.ensures.value names m memory locals a known) (c.freeze.ensures.valid names m memory))

pub returns-in-Address : goal.returns-in-Address
returns-in-Address c = λ names memory locals distinct s a k.
    let m = c.args.memory.now in
    let known = subst (λ (t : Compute). IsComputeKnown names m memory t) c.in-Address.is k in
    let known' = subst (λ (ts : List Typed). AreKnown names m memory ts) (sym c.deref.ensures.value) known.1 in
    as_this names m memory locals c.args.choice c.args.task.now (compute.Address c.in-Address.inbounds c.in-Address.shape c.in-Address.base c.in-Address.indices) (outcome.Value c.address.result) c.in-Address.is
    (value_given names m memory c.args.choice (compute_meant names locals (compute.Address c.in-Address.inbounds c.in-Address.shape c.in-Address.base c.in-Address.indices))
    (address_of memory c.in-Address.inbounds c.in-Address.shape.now (source_meant names locals c.in-Address.base) (indices_meant names locals c.in-Address.indices.items)) c.address.result (λ sig input place. refl)
    (c.address.ensures.value names m memory locals a known.0 known'
    ∙ ap (λ (ts : List Typed). address_of memory c.in-Address.inbounds c.in-Address.shape.now (source_meant names locals c.in-Address.base) (indices_meant names locals ts)) c.deref.ensures.value)
    (c.address.ensures.valid names m memory locals a known.0))

pub returns-in-Poison : goal.returns-in-Poison
returns-in-Poison c = λ names memory locals distinct s a k.
    let m = c.args.memory.now in
    as_this names m memory locals c.args.choice c.args.task.now compute.Poison (outcome.Value scalar.Poison) c.in-Poison.is
    (value_given names m memory c.args.choice (compute_meant names locals compute.Poison) value.Poison scalar.Poison (λ sig input place. refl) refl (tt, tt))

pub address-requires-clause-laid : goal.address-requires-clause-laid
address-requires-clause-laid c = (subst CanCompute c.in-Address.is c.requires).0

pub load-requires-clause-width : goal.load-requires-clause-width
load-requires-clause-width c = (subst CanCompute c.in-Load.is c.requires).0

pub load-requires-clause-aligned : goal.load-requires-clause-aligned
load-requires-clause-aligned c = (subst CanCompute c.in-Load.is c.requires).1

pub cast-requires : goal.cast-requires
cast-requires c = subst CanCompute c.in-Cast.is c.requires

pub binary-requires-clause-some : goal.binary-requires-clause-some
binary-requires-clause-some c = (subst CanCompute c.in-Binary.is c.requires).0

pub binary-requires-clause-within : goal.binary-requires-clause-within
binary-requires-clause-within c = (subst CanCompute c.in-Binary.is c.requires).1

pub compare-requires : goal.compare-requires
compare-requires c = subst CanCompute c.in-Compare.is c.requires

pub freeze-requires : goal.freeze-requires
freeze-requires c = subst CanCompute c.in-Freeze.is c.requires

pub address-requires-clause-typed : goal.address-requires-clause-typed
address-requires-clause-typed c = subst (λ (ts : List Typed). All (λ i. HasWidth i.reg) ts) (sym c.deref.ensures.value) (subst CanCompute c.in-Address.is c.requires).1
