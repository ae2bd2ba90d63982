use Rattle.std.proofs.Common.{◌∙◌, subst, sym}
use Rattle.std.specs.Prelude.{IfSome}
use Rattle.ir_tree.specs.declared.module.GlobalValue.{GlobalValue}
use Rattle.ir_flow.specs.OfFunction.{IsValueFlow}
use Rattle.link_one.proofs.piece.linked_global.Goals as goal

pub compile-requires-clause-flow : goal.compile-requires-clause-flow
compile-requires-clause-flow c = subst (λ (g : GlobalValue). IfSome c.flow.result (λ w. IsValueFlow g w.now)) (sym c.value.ensures ∙ c.in-Function.is) c.flow.ensures
