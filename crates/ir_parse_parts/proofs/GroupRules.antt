-- The readers of groups in brackets read them.
use Rattle.std.proofs.Common.{◌≡◌, ℕ, zero, suc, true, false, Some, List, [], ◌∷◌, refl}
use Rattle.std.specs.Prelude.{codes}
use Rattle.ir_lex.specs.declared.token_kind.TokenKind.TheVariants as kinds
use Rattle.ir_lex.specs.declared.token_kind.TokenKind.{TokenKind}
use Rattle.ir_lex.specs.TokenKinds.{number}
use Rattle.ir_lex.specs.Tok.{Tok}
use Rattle.ir_parse_parts.specs.Alphabet.{contains, among}
use Rattle.ir_parse_parts.specs.Balanced as balanced
use Rattle.ir_parse_parts.specs.Balanced.{Closing, closing_at, HaveClosers, moved}
use Rattle.ir_parse_parts.specs.Rules.{Rule}
use Rattle.ir_parse_parts.proofs.Closings.{closing_lawful}
use Rattle.ir_parse_parts.proofs.Composed.{widened}
use Rattle.ir_parse_parts.proofs.Rules as rules
use Rattle.ir_parse_parts.specs.Brackets.{brackets, opening, move_of, group, group_at}
use Rattle.ir_parse_parts.specs.Classes.{tokens, IsReal, NUMERALS, the, the_at}
use Rattle.ir_parse_parts.specs.declared.brackets.Bracket.{Bracket}
use Rattle.ir_parse_parts.specs.declared.brackets.Bracket.TheVariants.{Paren, Square, Curly}
use Rattle.ir_parse_parts.proofs.Singles.{mark, close_paren_real, close_bracket_real, close_brace_real, open_paren_rule, open_bracket_rule, open_brace_rule}

abbrev pub closer : Bracket → Tok
closer Paren = mark kinds.CloseParen (codes ")")
closer Square = mark kinds.CloseBracket (codes "]")
closer Curly = mark kinds.CloseBrace (codes "}")

pub closer_real : (b : Bracket) → IsReal (closer b)
closer_real Paren = close_paren_real
closer_real Square = close_bracket_real
closer_real Curly = close_brace_real

closes_it : (b : Bracket) (bs : List Bracket) → moved brackets (move_of (closer b).kind) b bs ≡ Some bs
closes_it Paren bs = refl
closes_it Square bs = refl
closes_it Curly bs = refl

-- what may be written by a number is no bracket
pub number_stays : (h : TokenKind) → contains NUMERALS (number h) ≡ true → move_of h ≡ balanced.stays
number_stays kinds.OpenParen e = absurd cc
number_stays kinds.OpenBracket e = absurd cc
number_stays kinds.OpenBrace e = absurd cc
number_stays kinds.CloseParen e = absurd cc
number_stays kinds.CloseBracket e = absurd cc
number_stays kinds.CloseBrace e = absurd cc
number_stays h e = refl

have_closers : HaveClosers brackets tokens
have_closers = record { closer = closer; closes_it = closes_it; real = closer_real; number_stays = λ t e. number_stays t.kind e }

abbrev pub below : ℕ → List ℕ
below zero = []
below (suc n) = n ∷ below n

-- each class there is
abbrev pub EVERY : List ℕ
EVERY = below 120

pub every_class : (h : TokenKind) → contains EVERY (number h) ≡ true
every_class kinds.Number = refl
every_class h = refl

closing_rule : (b : Bracket) → Rule tokens (Closing brackets (b ∷ [])) (Closing brackets (b ∷ [])) (closing_at brackets (b ∷ [])) EVERY [] false
closing_rule b = record { law = widened tokens (among tokens EVERY) (among tokens []) (closing_lawful tokens brackets have_closers (b ∷ [])) (λ t e. every_class t.kind) (λ t e. e) }

group_with : (b : Bracket) → Rule tokens (the (opening b)) (the (opening b)) (the_at (opening b)) (number (opening b) ∷ []) [] false → Rule tokens (group b) (group b) (group_at b) (number (opening b) ∷ []) [] false
unfolding group group_at
group_with b open_rule = rules.seq tokens open_rule (λ _. closing_rule b) refl

pub group_rule : (b : Bracket) → Rule tokens (group b) (group b) (group_at b) (number (opening b) ∷ []) [] false
group_rule Paren = group_with Paren open_paren_rule
group_rule Square = group_with Square open_bracket_rule
group_rule Curly = group_with Curly open_brace_rule
