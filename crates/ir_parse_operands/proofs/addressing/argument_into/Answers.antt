use Rattle.std.proofs.Common.{List, [], ◌∷◌, ◌++◌, Result, ap}
use Rattle.ir_lex.specs.Tok.{Tok}
use Rattle.ir_parse_parts.specs.declared.fault.Fault.{Fault}
use Rattle.ir_parse_parts.specs.declared.raw.Argument.{Argument}
use Rattle.ir_parse_parts.specs.Readers.{done, follow}
use Rattle.ir_parse_operands.proofs.Additions.{pushed_returns}
use Rattle.ir_parse_operands.proofs.addressing.argument_into.Goals as goal

pub returns : goal.returns
returns c =
    pushed_returns c.push.result c.push.new.list.items c.args.indices.now.items c.in_ok-argument.argument c.argument_at.new.tokens _ c.push.ensures.pushed c.push.ensures.memory
    (ap (λ (r : Result (Argument × List Tok) Fault). follow r (λ x. done (c.args.indices.now.items ++ x ∷ []))) c.in_ok-argument.ensures)
