-- Under other names for symbols a global value has the control flow that it had.
use Rattle.std.proofs.Common.{Option, Some, None}
use Rattle.std.specs.Prelude.{IfSome}
use Rattle.std.proofs.lemmas.List.{length-map}
use Rattle.ir_tree.specs.declared.module.GlobalValue.{GlobalValue}
use Rattle.ir_tree.specs.declared.module.GlobalValue.TheVariants as global
use Rattle.ir_flow.specs.OfFunction.{IsValueFlow}
use Rattle.ir_flow.specs.declared.flow.Flow.{Flow}
use Rattle.ir_flow.proofs.Reaching.{flow_stays}
use Rattle.ir_meaning.specs.Refine.{Naming}
use Rattle.ir_meaning.specs.Rename.{block_under}
use Rattle.merge_meaning.specs.Globals.{function_under, global_under}
use Rattle.merge_meaning.proofs.Sounds.{edges_same}

value_flow_under : (t : Naming) (g : GlobalValue) (flow : Flow) → IsValueFlow g flow → IsValueFlow (global_under t g) flow
value_flow_under t (global.Variable v) flow is = tt
value_flow_under t (global.Function f) flow is = flow_stays f (function_under t f) flow (length-map f.blocks (block_under t)) (edges_same t f) is

pub flow_under : (t : Naming) (g : GlobalValue) (flow : Option Flow) → IfSome flow (IsValueFlow g) → IfSome flow (IsValueFlow (global_under t g))
flow_under t g None is = tt
flow_under t g (Some flow) is = value_flow_under t g flow is
