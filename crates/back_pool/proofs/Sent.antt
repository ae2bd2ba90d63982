-- Global values may be shared among threads: they own memory of the heap alone.
use denote.Param.Send.{IsSync, sendable}
use denote.Ref.{NamedLft}
use Rattle.std.proofs.Crossing.{crosses}
use Rattle.ir_tree.proofs.shape.Shape.TheLaws.TheKnot as shapes
use Rattle.ir_tree.specs.contracts.block.Block as block
use Rattle.ir_tree.specs.contracts.function.Function as function
use Rattle.ir_tree.specs.contracts.function.Variable as variable
use Rattle.ir_tree.specs.contracts.instr.Incoming as incoming
use Rattle.ir_tree.specs.contracts.instr.Instr as instr
use Rattle.ir_tree.specs.contracts.instr.Line as line
use Rattle.ir_tree.specs.contracts.instr.Phi as phi
use Rattle.ir_tree.specs.contracts.module.GlobalValue as global
use Rattle.ir_tree.specs.contracts.operand.Argument as argument
use Rattle.ir_tree.specs.contracts.operand.Reg as reg
use Rattle.ir_tree.specs.contracts.rows.Rows as rows
use Rattle.lto_sets.specs.contracts.bits.Bits as bits
use Rattle.ir_flow.specs.contracts.graph.Edges as edges
use Rattle.ir_flow.specs.contracts.flow.Flow as flow
use Rattle.ir_flow.specs.contracts.analysed_value.AnalysedValue as analysed
use Rattle.lto_task.specs.contracts.task.Task as task
use Rattle.lto_task.specs.contracts.task.TaskModule as task_module

-- `search` finds a type that stands in a field by the row of its field, and one that stands in a list by its own

pub reg_sync : IsSync reg.the_row
reg_sync = search (sendable, crosses) depth 60 fits 20000

pub argument_sync : IsSync argument.the_row
argument_sync = search (sendable, crosses) depth 60 fits 20000

pub arguments_sync : IsSync (rows.the_row argument.the_row)
arguments_sync = search (argument_sync, sendable, crosses) depth 60 fits 20000

pub incoming_sync : IsSync incoming.the_row
incoming_sync = search (sendable, crosses) depth 60 fits 20000

pub instr_sync : IsSync (instr.the_field).row
instr_sync = search (reg_sync, arguments_sync, incoming_sync, sendable, crosses, shapes.crosses) depth 60 fits 20000

pub line_sync : IsSync line.the_row
line_sync = search (instr_sync, sendable, crosses) depth 60 fits 20000

pub phi_sync : IsSync phi.the_row
phi_sync = search (sendable, crosses) depth 60 fits 20000

pub block_sync : IsSync block.the_row
block_sync = search (line_sync, phi_sync, sendable, crosses) depth 60 fits 20000

pub function_sync : IsSync (function.the_field).row
function_sync = search (block_sync, sendable, crosses) depth 60 fits 20000

pub variable_sync : IsSync (variable.the_field).row
variable_sync = search (sendable, crosses, shapes.crosses) depth 60 fits 20000

pub global_sync : IsSync (global.the_field).row
global_sync = search (variable_sync, function_sync, sendable, crosses) depth 60 fits 20000

pub bits_sync : IsSync bits.the_row
bits_sync = search (sendable, crosses) depth 60 fits 20000

pub edges_sync : IsSync edges.the_row
edges_sync = search (sendable, crosses) depth 60 fits 20000

pub flow_sync : IsSync flow.the_row
flow_sync = search (bits_sync, edges_sync, sendable, crosses) depth 60 fits 20000

pub analysed_sync : IsSync analysed.the_row
analysed_sync = search (global_sync, flow_sync, sendable, crosses) depth 60 fits 20000

pub analysed_values_sync : IsSync (rows.the_row analysed.the_row)
analysed_values_sync = search (analysed_sync, sendable, crosses) depth 60 fits 20000

pub task_module_sync : (κ : NamedLft) → IsSync (task_module.the_field κ).row
task_module_sync κ = search (analysed_values_sync, analysed_sync, sendable, crosses) depth 60 fits 20000

pub task_sync : (κ : NamedLft) → IsSync (task.the_row κ)
task_sync κ = search (task_module_sync, sendable, crosses) depth 60 fits 20000
