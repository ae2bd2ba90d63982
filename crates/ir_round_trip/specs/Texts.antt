-- The tokens of printed text.
use Rattle.std.specs.Prelude.{ℕ, suc, List, [], ◌∷◌, ◌++◌}
use Rattle.ir_lex.specs.Blanks.{line_behind}
use Rattle.ir_lex.specs.TokenKinds.{kind_of}
use Rattle.ir_lex.specs.Pieces.{Piece, ends_at}
use Rattle.ir_lex.specs.Tok.{Tok}

-- the line behind pieces, of which the first stands at this line or behind it
abbrev pub line_after : ℕ → List Piece → ℕ
line_after line [] = line
line_after line (p ∷ ps) = line_after (line_behind (line_behind line p.blank) (p.first ∷ p.others)) ps

-- the tokens of pieces before others; each is of the class that it is of alone
abbrev pub tokens_before : List Piece → ℕ → List Piece → List Tok
tokens_before behind line [] = []
tokens_before behind line (p ∷ ps) =
    record {
      form = p.form;
      text = p.first ∷ p.others;
      line = line_behind line p.blank;
      kind = kind_of p.form (p.first ∷ p.others) [];
      ends_line = ends_at (line_behind (line_behind line p.blank) (p.first ∷ p.others)) (ps ++ behind);
    }
    ∷ tokens_before behind (line_behind (line_behind line p.blank) (p.first ∷ p.others)) ps

-- the tokens of entries that begin on this line, each with a line feed behind it
abbrev pub tokens_in : ℕ → List (List Piece) → List Tok
tokens_in line [] = []
tokens_in line (entry ∷ more) = tokens_before [] line entry ++ tokens_in (suc (line_after line entry)) more
