use Rattle.ir_print.proofs.instruction.put_instruction.Goals as goal

pub returns-in-Binary : goal.returns-in-Binary
returns-in-Binary c = rw c.in-Binary.is c.binary.ensures

pub returns-in-Icmp : goal.returns-in-Icmp
returns-in-Icmp c = rw c.in-Icmp.is c.icmp.ensures

pub returns-in-Cast : goal.returns-in-Cast
returns-in-Cast c = rw c.in-Cast.is c.cast.ensures

pub returns-in-Select : goal.returns-in-Select
returns-in-Select c = rw c.in-Select.is c.select.ensures

pub returns-in-Freeze : goal.returns-in-Freeze
returns-in-Freeze c = rw c.in-Freeze.is c.freeze.ensures

pub returns-in-Alloca : goal.returns-in-Alloca
returns-in-Alloca c = rw c.in-Alloca.is c.alloca.ensures

pub returns-in-Load : goal.returns-in-Load
returns-in-Load c = rw c.in-Load.is c.load.ensures

pub returns-in-Store : goal.returns-in-Store
returns-in-Store c = rw c.in-Store.is c.store.ensures

pub returns-in-Address : goal.returns-in-Address
returns-in-Address c = rw c.in-Address.is (rw c.as_slice.ensures at c.address.ensures)

pub returns-in-Call : goal.returns-in-Call
returns-in-Call c = rw c.in-Call.is (rw c.as_slice-in-Call.ensures at c.call.ensures)

pub returns-in-Phi : goal.returns-in-Phi
returns-in-Phi c = rw c.in-Phi.is (rw c.as_slice-in-Phi.ensures at c.phi.ensures)
