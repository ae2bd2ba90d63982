use Rattle.std.proofs.Common.{sym}
use Rattle.ir_parse_parts.specs.Alphabet.{among}
use Rattle.ir_parse_parts.specs.Classes.{tokens}
use Rattle.ir_parse_parts.specs.Operands.{LOCAL}
use Rattle.ir_parse_bodies.specs.LinesAt.{named_line_at, plain_line_at}
use Rattle.ir_parse_bodies.specs.LinesAt.{line_at}
use Rattle.ir_parse_bodies.proofs.Successions.{returns_within}
use Rattle.ir_parse_operands.proofs.Choices.{passes_over, picks}
use Rattle.ir_parse_bodies.proofs.lines.line_into.Goals as goal

pub returns-then-comes : goal.returns-then-comes
unfolding line_at
returns-then-comes c = returns_within (picks (among tokens LOCAL) named_line_at plain_line_at c.args.tokens.now (sym c.if-comes.ensures)) _ _ _ c.named_line_into.ensures

pub returns-else-comes : goal.returns-else-comes
unfolding line_at
returns-else-comes c = returns_within (passes_over (among tokens LOCAL) named_line_at plain_line_at c.args.tokens.now (sym c.if-comes.ensures)) _ _ _ c.plain_line_into.ensures
