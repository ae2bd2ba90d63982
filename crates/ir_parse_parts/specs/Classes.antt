-- Tokens as the grammar of modules sees them: the class of each, and why one can't stand where it isn't wanted.
use Rattle.std.specs.Prelude.{◌≡◌, ℕ, true, false, nat_lt, if◌then◌else◌, List, [], ◌∷◌, ◌++◌, length}
use Rattle.ir_lex.specs.declared.token_kind.TokenKind.TheVariants as kinds
use Rattle.ir_lex.specs.declared.token_kind.TokenKind.{TokenKind}
use Rattle.ir_lex.specs.TokenKinds.{number, kind_of}
use Rattle.ir_lex.specs.Lexing.{is_bad}
use Rattle.ir_lex.specs.Rows.{best_fit, fit}
use Rattle.ir_lex.specs.Tok.{Tok}
use Rattle.ir_parse_parts.specs.Alphabet.{Alphabet, contains}
use Rattle.ir_parse_parts.specs.declared.fault.TokenFault.{TokenFault}
use Rattle.ir_parse_parts.specs.declared.fault.TokenFault.TheVariants.{Syntax, Profile}
use Rattle.ir_parse_parts.specs.Forms.{Form, token}
use Rattle.ir_parse_parts.specs.Readers.{Reader, token_at}
use Rattle.ir_parse_parts.specs.Rules.{is_class, is_among}

-- bytes spell this token: before some others they are one token of its kind and class
pub record IsReal (t : Tok) : Type 0 where
  pub behind : List ℕ
  pub some : nat_lt 0 (length t.text) ≡ true
  pub fits : best_fit (t.text ++ behind) ≡ fit t.form (length t.text)
  pub good : is_bad (t.text ++ behind) ≡ false
  pub class : t.kind ≡ kind_of t.form t.text behind

-- these are written by numbers, or may be
abbrev pub NUMERALS : List ℕ
NUMERALS = number kinds.Number ∷ number kinds.Local ∷ number kinds.Label ∷ number kinds.Group ∷ number kinds.NumberedGlobal ∷ number kinds.NumberedDefinition ∷ []

-- and of these this one is no name
abbrev pub LITERALS : List ℕ
LITERALS = number kinds.Number ∷ []

abbrev pub tokens : Alphabet Tok
tokens = record { class = λ t. number t.kind; numerals = NUMERALS; literals = LITERALS; Real = IsReal }

-- these stand for parts of the language that aren't read
abbrev pub REFUSED : List ℕ
REFUSED = number kinds.ReservedGlobal ∷ number kinds.LifetimeMarker ∷ number kinds.RefusedMark ∷ number kinds.RefusedInteger ∷ number kinds.RefusedAttribute ∷ number kinds.RefusedWord ∷ []

abbrev pub refusal : ℕ → TokenFault
refusal class = if contains REFUSED class then Profile else Syntax

-- a token of this class
abbrev pub the : TokenKind → Form Tok (Unit {0})
the wanted = token (is_class tokens refusal (number wanted))

abbrev pub the_at : TokenKind → Reader Tok (Unit {0})
the_at wanted = token_at (is_class tokens refusal (number wanted))

-- a token of one of these classes, and what it means
abbrev pub one_of : {A : Type 0} → List ℕ → (Tok → A) → Form Tok A
one_of classes value = token (is_among tokens refusal classes value)

abbrev pub one_of_at : {A : Type 0} → List ℕ → (Tok → A) → Reader Tok A
one_of_at classes value = token_at (is_among tokens refusal classes value)

-- the token itself
abbrev pub itself : Tok → Tok
itself t = t

-- the next of these tokens is of this class
abbrev pub NextHead : List Tok → TokenKind → Type 0
NextHead [] h = ⊥
NextHead (t ∷ ts) h = t.kind ≡ h
