use Rattle.std.proofs.Common.{List, [], ◌∷◌, ◌++◌, Result, ap}
use Rattle.ir_lex.specs.Tok.{Tok}
use Rattle.ir_parse_parts.specs.declared.fault.Fault.{Fault}
use Rattle.ir_parse_parts.specs.declared.shape.Typed.{Typed}
use Rattle.ir_parse_parts.specs.Readers.{done, follow}
use Rattle.ir_parse_operands.proofs.Additions.{pushed_returns}
use Rattle.ir_parse_operands.proofs.Grouping.{opening_read}
use Rattle.ir_parse_operands.proofs.values.opening_into.Goals as goal

pub returns : goal.returns
returns c =
    pushed_returns c.push.result c.push.new.list.items c.args.levels.now.items c.in_ok-typed.typed c.pointee_at.new.tokens _ c.push.ensures.pushed c.push.ensures.memory
    (ap (λ (r : Result (Typed × List Tok) Fault). follow r (λ x. done (c.args.levels.now.items ++ x ∷ [])))
    (opening_read c.args.tokens.now c.expect.new.tokens c.stepping_at.new.tokens c.expect-2.new.tokens c.pointee_at.new.tokens c.in_ok-stepping_at.field-0 c.in_ok-typed.typed c.in_ok-expect.ensures c.in_ok-stepping_at.ensures c.in_ok-expect-2.ensures c.in_ok-typed.ensures))
