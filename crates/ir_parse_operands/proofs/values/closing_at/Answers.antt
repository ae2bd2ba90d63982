use Rattle.std.proofs.Common.{List, reverse, sym, ap, ◌∙◌}
use Rattle.ir_parse_parts.proofs.Loops.{with_front}
use Rattle.ir_parse_parts.specs.declared.address.Level.{Level}
use Rattle.ir_parse_parts.specs.declared.shape.Typed.{Typed}
use Rattle.ir_parse_operands.specs.ValuesAt.{closing_at, closing_one_at}
use Rattle.ir_parse_operands.proofs.Levels.{last_is_first, none_before, turns_on}
use Rattle.ir_parse_operands.proofs.values.closing_at.Goals as goal

pub each-init : goal.each-init
each-init c =
    ap (λ (x : List Level). with_front x (closing_at (reverse c.args.outer.items) c.args.tokens.now)) c.new-levels.ensures.items
    ∙ none_before (closing_at (reverse c.args.outer.items) c.args.tokens.now)

pub each-preserved : goal.each-preserved
each-preserved c =
    ap (λ (x : List Level). with_front x (closing_at (reverse c.pop.new.self.items) c.closing_one_at.new.tokens)) c.in_ok-push.ensures.items
    ∙ turns_on (closing_one_at c.in-Some.typed) (closing_at (reverse c.pop.new.self.items)) c.each.levels.items c.each.tokens c.closing_one_at.new.tokens c.in_ok-level.level _ c.in_ok-level.ensures
    (ap (λ (xs : List Typed). with_front c.each.levels.items (closing_at xs c.each.tokens)) (sym (last_is_first c.pop.new.self.items c.each.outer.items c.in-Some.typed c.in-Some.ensures.items)) ∙ c.each.invariant)
