use Rattle.std.proofs.Common.{Bool, List, Option, Result, sym, ap}
use Rattle.ir_lex.specs.declared.token_kind.TokenKind.TheVariants as kinds
use Rattle.ir_lex.specs.Tok.{Tok}
use Rattle.ir_parse_parts.specs.Classes.{the_at}
use Rattle.ir_parse_parts.specs.declared.fault.Fault.{Fault}
use Rattle.ir_parse_parts.specs.declared.raw.Argument.{Argument}
use Rattle.ir_parse_parts.specs.Readers.{done, follow}
use Rattle.ir_parse_operands.specs.Addressing.{keep}
use Rattle.ir_parse_operands.specs.AddressingAt.{behind_comma_at, further_at}
use Rattle.ir_parse_operands.proofs.Choices.{goes_on}
use Rattle.ir_parse_operands.proofs.Levels.{gives_as}
use Rattle.ir_parse_operands.proofs.addressing.further_into.Goals as goal

pub returns : goal.returns
unfolding further_at
returns c =
    gives_as _ _ _ _
    (ap (λ (r : Result ((Option Argument × Bool) × List Tok) Fault). follow r (λ (x : Option Argument × Bool). done (keep c.args.indices.now.items x.0, x.1)))
    (sym (goes_on (λ _. behind_comma_at c.args.attached) (the_at kinds.Comma c.args.tokens.now) tt c.expect.new.tokens c.in_ok-expect.ensures)))
    c.behind_comma_into.ensures
