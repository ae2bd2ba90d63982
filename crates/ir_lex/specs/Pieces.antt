-- Text that is written as tokens with blanks between, and what it is read as.
use Rattle.std.specs.Prelude.{◌≡◌, ℕ, suc, Bool, true, false, nat_lt, None, List, [], ◌∷◌, ◌++◌, length}
use Rattle.ir_lex.specs.declared.token.TokenForm.{TokenForm}
use Rattle.ir_lex.specs.TokenKinds.{kind_of}
use Rattle.ir_lex.specs.Blanks.{is_blank, line_behind, pass}
use Rattle.ir_lex.specs.Lexing.{is_bad}
use Rattle.ir_lex.specs.Rows.{best_fit, fit}
use Rattle.ir_lex.specs.Tok.{Tok}

-- a token, and the blank before it
pub record Piece : Type 0 where
  pub blank : List ℕ
  pub form : TokenForm
  pub first : ℕ
  pub others : List ℕ

abbrev pub bytes_of : List Piece → List ℕ
bytes_of [] = []
bytes_of (p ∷ ps) = p.blank ++ (p.first ∷ p.others ++ bytes_of ps)

abbrev pub AllBlank : List ℕ → Type 0
AllBlank [] = Unit {0}
AllBlank (b ∷ bs) = (is_blank b ≡ true) × AllBlank bs

-- each blank is blank, and each token is one, and the longest that fits, before what follows
abbrev pub AreSpelled : List Piece → Type 0
AreSpelled [] = Unit {0}
AreSpelled (p ∷ ps) =
    AllBlank p.blank × (pass false p.first ≡ None) × (best_fit (p.first ∷ p.others ++ bytes_of ps) ≡ fit p.form (suc (length p.others)))
    × (is_bad (p.first ∷ p.others ++ bytes_of ps) ≡ false) × AreSpelled ps

-- whether the line ends between a token that ends on it and these
abbrev pub ends_at : ℕ → List Piece → Bool
ends_at line [] = true
ends_at line (p ∷ ps) = nat_lt line (line_behind line p.blank)

-- the tokens, the first of which stands at this line or behind it
abbrev pub tokens_of : ℕ → List Piece → List Tok
tokens_of line [] = []
tokens_of line (p ∷ ps) =
    record {
      form = p.form;
      text = p.first ∷ p.others;
      line = line_behind line p.blank;
      kind = kind_of p.form (p.first ∷ p.others) (bytes_of ps);
      ends_line = ends_at (line_behind (line_behind line p.blank) (p.first ∷ p.others)) ps;
    }
    ∷ tokens_of (line_behind (line_behind line p.blank) (p.first ∷ p.others)) ps
