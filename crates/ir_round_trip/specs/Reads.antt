-- Pieces of text that a form reads.
use Rattle.std.specs.Prelude.{ℕ, List}
use Rattle.ir_lex.specs.Pieces.{Piece}
use Rattle.ir_lex.specs.Tok.{Tok}
use Rattle.ir_parse_parts.specs.Forms.{Form}
use Rattle.ir_round_trip.specs.Texts.{tokens_before}

-- whatever stands behind these pieces, and on whatever line they begin, their tokens spell by the form a value that has the
-- property
pub record Parses {A : Type 0} (g : Form Tok A) (P : A → Type 0) (ps : List Piece) : Type 0 where
  pub value : (behind : List Piece) (line : ℕ) → (a : A) × g (tokens_before behind line ps) a × P a

-- nothing is asked of a value
abbrev pub Any : {A : Type 0} → A → Type 0
Any a = Unit {0}
