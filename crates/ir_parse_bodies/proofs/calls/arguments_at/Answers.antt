use Rattle.std.proofs.Common.{List, ap, sym, ◌∙◌}
use Rattle.ir_parse_bodies.specs.CallsAt.{arguments_at}
use Rattle.ir_parse_parts.specs.declared.raw.Argument.{Argument}
use Rattle.ir_parse_bodies.specs.Adding.{joined_at}
use Rattle.ir_parse_bodies.proofs.Additions.{joined_alone}
use Rattle.ir_parse_bodies.proofs.calls.arguments_at.Goals as goal

pub returns : goal.returns
returns c = sym (joined_alone (arguments_at c.args.types.now c.args.tokens.now)) ∙ ap (λ (front : List Argument). joined_at front (arguments_at c.args.types.now) c.args.tokens.now) (sym c.new-arguments.ensures.items) ∙ c.in_ok-arguments_into.ensures
