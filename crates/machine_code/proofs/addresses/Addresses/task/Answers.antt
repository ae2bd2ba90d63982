use Rattle.std.proofs.Common.{List, All, sym, subst}
use Rattle.std.proofs.lemmas.Result.{IfOk-weaker}
use Rattle.ir_tree.specs.declared.instr.Instr.TheVariants as kind
use Rattle.ir_tree.specs.declared.operand.Argument.{Argument}
use Rattle.ir_machine.specs.Marks.{HasWidth}
use Rattle.machine_code.specs.Tasks.{IsTask}
use Rattle.machine_code.proofs.Tasking.{binary_task, by_kind, cast_task, compare_task, freeze_task, load_task, phi_task, reserve_task, select_task, sound, store_task}
use Rattle.machine_code.proofs.addresses.Addresses.task.Goals as goal

pub returns-in-Binary : goal.returns-in-Binary
returns-in-Binary c =
    by_kind c.args.self.now c.args.instr.now (kind.Binary c.in-Binary.op c.in-Binary.flags c.in-Binary.width c.in-Binary.left c.in-Binary.right) _ c.in-Binary.is
    (binary_task c.args.self.now c.in-Binary.op c.in-Binary.flags c.in-Binary.width c.in-Binary.left c.in-Binary.right c.source-left.result c.source-right.result c.source-left.ensures c.source-right.ensures
    (sound c.args.instr.now (kind.Binary c.in-Binary.op c.in-Binary.flags c.in-Binary.width c.in-Binary.left c.in-Binary.right) c.in-Binary.is c.requires))

pub returns-in-Icmp : goal.returns-in-Icmp
returns-in-Icmp c =
    by_kind c.args.self.now c.args.instr.now (kind.Icmp c.in-Icmp.predicate c.in-Icmp.reg c.in-Icmp.left c.in-Icmp.right) _ c.in-Icmp.is
    (compare_task c.args.self.now c.in-Icmp.predicate c.in-Icmp.reg c.in-Icmp.left c.in-Icmp.right c.source-left-in-Icmp.result c.source-right-in-Icmp.result c.source-left-in-Icmp.ensures c.source-right-in-Icmp.ensures
    (sound c.args.instr.now (kind.Icmp c.in-Icmp.predicate c.in-Icmp.reg c.in-Icmp.left c.in-Icmp.right) c.in-Icmp.is c.requires))

pub returns-in-Cast : goal.returns-in-Cast
returns-in-Cast c =
    by_kind c.args.self.now c.args.instr.now (kind.Cast c.in-Cast.op c.in-Cast.from c.in-Cast.value c.in-Cast.to) _ c.in-Cast.is
    (cast_task c.args.self.now c.in-Cast.op c.in-Cast.from c.in-Cast.to c.in-Cast.value c.source-value.result c.source-value.ensures
    (sound c.args.instr.now (kind.Cast c.in-Cast.op c.in-Cast.from c.in-Cast.value c.in-Cast.to) c.in-Cast.is c.requires))

pub returns-in-Select : goal.returns-in-Select
returns-in-Select c =
    by_kind c.args.self.now c.args.instr.now (kind.Select c.in-Select.condition c.in-Select.if_true c.in-Select.if_false) _ c.in-Select.is
    (select_task c.args.self.now c.in-Select.condition c.in-Select.if_true c.in-Select.if_false c.source-condition.result c.source-first.result c.source-second.result c.source-condition.ensures c.source-first.ensures c.source-second.ensures)

pub returns-in-Freeze : goal.returns-in-Freeze
returns-in-Freeze c =
    by_kind c.args.self.now c.args.instr.now (kind.Freeze c.in-Freeze.reg c.in-Freeze.value) _ c.in-Freeze.is
    (freeze_task c.args.self.now c.in-Freeze.reg c.in-Freeze.value c.source-value-in-Freeze.result c.source-value-in-Freeze.ensures
    (sound c.args.instr.now (kind.Freeze c.in-Freeze.reg c.in-Freeze.value) c.in-Freeze.is c.requires))

pub returns-in-Load : goal.returns-in-Load
returns-in-Load c =
    by_kind c.args.self.now c.args.instr.now (kind.Load c.in-Load.reg c.in-Load.address c.in-Load.align) _ c.in-Load.is
    (load_task c.args.self.now c.in-Load.reg c.in-Load.address c.in-Load.align c.source-address.result c.source-address.ensures
    (sound c.args.instr.now (kind.Load c.in-Load.reg c.in-Load.address c.in-Load.align) c.in-Load.is c.requires))

pub address-requires-clause-laid : goal.address-requires-clause-laid
address-requires-clause-laid c = (sound c.args.instr.now (kind.Address c.in-Address.inbounds c.in-Address.shape c.in-Address.base c.in-Address.indices) c.in-Address.is c.requires).0

pub address-requires-clause-widths : goal.address-requires-clause-widths
address-requires-clause-widths c =
    subst (λ (is : List Argument). All (λ (i : Argument). HasWidth i.reg) is) (sym c.as_slice.ensures)
    (sound c.args.instr.now (kind.Address c.in-Address.inbounds c.in-Address.shape c.in-Address.base c.in-Address.indices) c.in-Address.is c.requires).1

pub returns-in-Address : goal.returns-in-Address
returns-in-Address c =
    IfOk-weaker c.address.result _ _
    (λ made is.
    by_kind c.args.self.now c.args.instr.now (kind.Address c.in-Address.inbounds c.in-Address.shape c.in-Address.base c.in-Address.indices) made c.in-Address.is
    (subst (λ (rest : List Argument). IsTask c.args.self.now (kind.Address c.in-Address.inbounds c.in-Address.shape c.in-Address.base rest) made) c.as_slice.ensures is)) c.address.ensures

pub returns-in-Phi : goal.returns-in-Phi
returns-in-Phi c = by_kind c.args.self.now c.args.instr.now (kind.Phi c.in-Phi.reg c.in-Phi.incoming) _ c.in-Phi.is (phi_task c.args.self.now c.in-Phi.reg c.in-Phi.incoming)

pub size_of-size-requires : goal.size_of-size-requires
size_of-size-requires c = record { laid = sound c.args.instr.now (kind.Alloca c.in-Alloca.shape c.in-Alloca.align) c.in-Alloca.is c.requires }

pub returns-in-Alloca : goal.returns-in-Alloca
returns-in-Alloca c =
    by_kind c.args.self.now c.args.instr.now (kind.Alloca c.in-Alloca.shape c.in-Alloca.align) _ c.in-Alloca.is
    (reserve_task c.args.self.now c.in-Alloca.shape c.in-Alloca.align c.size_of-size.result c.size_of-size.ensures)

pub returns-in-Store : goal.returns-in-Store
returns-in-Store c =
    by_kind c.args.self.now c.args.instr.now (kind.Store c.in-Store.reg c.in-Store.value c.in-Store.address c.in-Store.align) _ c.in-Store.is
    (store_task c.args.self.now c.in-Store.reg c.in-Store.value c.in-Store.address c.in-Store.align c.source-value-in-Store.result c.source-address-in-Store.result c.source-value-in-Store.ensures c.source-address-in-Store.ensures
    (sound c.args.instr.now (kind.Store c.in-Store.reg c.in-Store.value c.in-Store.address c.in-Store.align) c.in-Store.is c.requires))

pub returns-in-Call : goal.returns-in-Call
returns-in-Call c =
    IfOk-weaker c.call.result _ _
    (λ made is.
    by_kind c.args.self.now c.args.instr.now (kind.Call c.in-Call.result c.in-Call.callee c.in-Call.arguments) made c.in-Call.is
    (subst (λ (rest : List Argument). IsTask c.args.self.now (kind.Call c.in-Call.result c.in-Call.callee rest) made) c.as_slice-in-Call.ensures is)) c.call.ensures
