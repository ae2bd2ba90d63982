use Rattle.std.proofs.Common.{inr, ap, sym, subst, arith, ◌∙◌}
use Rattle.ir_parse_names.specs.Keys.{written}
use Rattle.ir_parse_names.specs.Locals.{LocalTable, MayFollow, stands}
use Rattle.ir_parse_names.specs.LocalsViews.{definitions}
use Rattle.ir_parse_names.proofs.Definitions.{unnamed}
use Rattle.ir_parse_names.proofs.locals.Locals.define_unnamed.Goals as goal

pub push-requires-clause-free : goal.push-requires-clause-free
push-requires-clause-free c =
    ap (λ (k : LocalTable). stands k.definitions (written c.self.inside.counter)) (sym c.self.view_is) ∙ unnamed c.self.inside.counter (definitions c.self.inside.map.entries) c.self.invariant.0

pub push-requires-clause-next : goal.push-requires-clause-next
push-requires-clause-next c = subst (λ (k : LocalTable). MayFollow k.counter (written c.self.inside.counter)) c.self.view_is (inr (omega arith))
