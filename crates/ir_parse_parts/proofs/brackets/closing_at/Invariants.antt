use Rattle.std.proofs.Common.{◌≡◌, [], ◌∷◌, length, reverse}
use Rattle.ir_parse_parts.specs.Balanced.{closing_at}
use Rattle.ir_parse_parts.specs.Brackets.{brackets}
use Rattle.ir_parse_parts.proofs.brackets.closing_at.Given as goal

abbrev pub invariant-each : goal.invariant-each
invariant-each l = closing_at brackets (l.inner ∷ reverse l.outer.items) l.tokens ≡ closing_at brackets (l.fn.bracket ∷ []) l.fn.tokens

abbrev pub decreases-each : goal.decreases-each
decreases-each l = length l.tokens
