-- A token without where its bytes lie.
use Rattle.std.specs.Prelude.{ℕ, Bool, List, map}
use Rattle.ir_lex.specs.declared.token_kind.TokenKind.{TokenKind}
use Rattle.ir_lex.specs.declared.token.TokenForm.{TokenForm}
use Rattle.ir_lex.specs.declared.token.Token.{Token}

pub record Tok : Type 0 where
  pub form : TokenForm
  pub text : List ℕ
  -- the line of its first byte
  pub line : ℕ
  -- its class
  pub kind : TokenKind
  -- whether the text or its line ends before the next token
  pub ends_line : Bool

abbrev pub tok : Token → Tok
tok t = record { form = t.form; text = t.text.now; line = t.line; kind = t.kind; ends_line = t.ends_line }

abbrev pub toks : List Token → List Tok
toks ts = map tok ts
