use Rattle.std.proofs.Common.{Bool, Ok, sym, ap, ◌∙◌}
use Rattle.ir_parse_operands.proofs.Members.{comma_taken}
use Rattle.ir_parse_operands.proofs.shapes.comma_at.Goals as goal

pub returns-then-comes : goal.returns-then-comes
returns-then-comes c =
    comma_taken c.args.tokens.now c.take.new.self c.take.result (sym c.comes-comes.ensures ∙ c.if-comes.true) c.take.ensures
    ∙ ap (λ (b : Bool). Ok (b, c.take.new.self)) (sym c.if-comes.true)
