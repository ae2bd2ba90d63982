-- Metadata: nodes, attachments and lines (LangRef, "Metadata").
use Rattle.std.specs.Prelude.{ℕ, Bool, true, false, ◌&&◌, if◌then◌else◌, List, [], ◌∷◌}
use Rattle.ir_lex.specs.declared.token_kind.TokenKind.TheVariants as kinds
use Rattle.ir_lex.specs.TokenKinds.{number}
use Rattle.ir_lex.specs.Tok.{Tok}
use Rattle.ir_parse_parts.specs.Balanced.{Move, opens, closes, stays, none_open}
use Rattle.ir_parse_parts.specs.Forms.{Form, ◌>>=◌, either, gives, optional, Star}
use Rattle.ir_parse_parts.specs.Runs.{Step, bad, last, onward, Run}
use Rattle.ir_parse_parts.specs.Brackets.{group, move_of, same}
use Rattle.ir_parse_parts.specs.Classes.{the, one_of}
use Rattle.ir_parse_parts.specs.declared.brackets.Bracket.{Bracket}
use Rattle.ir_parse_parts.specs.declared.brackets.Bracket.TheVariants.{Paren, Curly}

-- a name of metadata, or a ! alone
abbrev pub META : List ℕ
META = number kinds.Meta ∷ number kinds.Bang ∷ []

abbrev pub ends_line : Tok → Bool
ends_line t = t.ends_line

-- node = Meta [ (..) ] / ! { .. } / ! ( .. )
unfoldable pub node : Form Tok (Unit {0})
node = either
    (do
      _ ← the kinds.Meta
      _ ← optional (group Paren)
      gives tt)
    (do
      _ ← the kinds.Bang
      either (group Curly) (group Paren))

-- Meta node
unfoldable pub attached : Form Tok (Unit {0})
attached = do
  _ ← one_of META ends_line
  node

-- , Meta node
unfoldable pub attachment : Form Tok (Unit {0})
attachment = do
  _ ← the kinds.Comma
  attached

unfoldable pub attachments : Form Tok (Unit {0})
attachments = do
  _ ← Star attachment
  gives tt

-- ---- lines of metadata: to the first line end at which no bracket is open

-- the brackets that are open behind a token; a bracket that closes none fits nowhere
abbrev pub open_behind : Move Bracket → List Bracket → Step (List Bracket)
open_behind (opens b) bs = onward (b ∷ bs)
open_behind (closes b) [] = bad
open_behind (closes b) (c ∷ bs) = if same c b then onward bs else bad
open_behind stays bs = onward bs

-- with the line's end behind it, a token that leaves no bracket open is the last
abbrev pub ended_by : Bool → Step (List Bracket) → Step (List Bracket)
ended_by ends bad = bad
ended_by ends last = last
ended_by ends (onward bs) = if ends && none_open bs then last else onward bs

abbrev pub line_step : List Bracket → Tok → Step (List Bracket)
line_step bs t = ended_by t.ends_line (open_behind (move_of t.kind) bs)

abbrev pub rest_of_line : Bool → Form Tok (Unit {0})
rest_of_line true = gives tt
rest_of_line false = Run line_step []

unfoldable pub metadata_line : Form Tok (Unit {0})
metadata_line = do
  ends ← one_of META ends_line
  rest_of_line ends
