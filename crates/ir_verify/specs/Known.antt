-- What is known of a function before its items are checked.
use Rattle.ir_flow.specs.Dominating.{AreDominators, dominance}
use Rattle.ir_flow.specs.OfFunction.{IsGraphOf, IsReach}
use Rattle.ir_tree.specs.declared.function.Function.{Function}
use Rattle.ir_verify.specs.declared.known.Known.{Known}
use Rattle.ir_verify.specs.Definitions.{definitions, numbered}
use Rattle.ir_verify.specs.Tables.{Holds}

pub record IsKnown (f : Function) (k : Known) : Type 0 where
  pub locals : Holds k.locals.entries.items (definitions f)
  pub places : Holds k.places.entries.items (numbered 0 f.blocks)
  pub preds : IsGraphOf f k.preds
  pub reached : IsReach f k.reached
  pub dominators : AreDominators f (dominance k.dominators)
