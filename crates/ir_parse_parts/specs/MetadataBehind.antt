-- Metadata behind the head of a declaration: a name with a node belongs to the head; without one it begins a line (LangRef,
-- "Metadata", "Functions").
use Rattle.std.specs.Prelude.{ℕ, Bool, true, false, if◌then◌else◌, Option, None, Result, Ok, Err, List, [], ◌∷◌}
use Rattle.ir_lex.specs.declared.token_kind.TokenKind.TheVariants as kinds
use Rattle.ir_lex.specs.TokenKinds.{number}
use Rattle.ir_lex.specs.Tok.{Tok}
use Rattle.ir_parse_parts.specs.Alphabet.{among, contains}
use Rattle.ir_parse_parts.specs.declared.fault.TokenFault.{TokenFault}
use Rattle.ir_parse_parts.specs.declared.fault.TokenFault.TheVariants.{Syntax}
use Rattle.ir_parse_parts.specs.Forms.{Form, ◌>>=◌, either, gives, optional, token}
use Rattle.ir_parse_parts.specs.Runs.{Step, bad, last, onward, Run}
use Rattle.ir_parse_parts.specs.Brackets.{group}
use Rattle.ir_parse_parts.specs.Classes.{tokens, the, one_of}
use Rattle.ir_parse_parts.specs.declared.brackets.Bracket.{Bracket}
use Rattle.ir_parse_parts.specs.declared.brackets.Bracket.TheVariants.{Paren, Curly}
use Rattle.ir_parse_parts.specs.declared.places.Before.{Before}
use Rattle.ir_parse_parts.specs.declared.places.Before.TheVariants as befores
use Rattle.ir_parse_parts.specs.Metadata.{META, ends_line, line_step}

-- what begins a node behind a name of metadata, and behind a ! alone
abbrev pub BANG : List ℕ
BANG = number kinds.Bang ∷ []

abbrev pub BRACES : List ℕ
BRACES = number kinds.OpenBrace ∷ number kinds.OpenParen ∷ []

-- ---- a line that goes on, but not with one of these tokens

abbrev pub fitting : Step (List Bracket) → Result (Step (List Bracket)) TokenFault
fitting bad = Err Syntax
fitting last = Ok last
fitting (onward bs) = Ok (onward bs)

unfoldable pub line_goes_on : List ℕ → Tok → Result (Step (List Bracket)) TokenFault
line_goes_on apart t = if among tokens apart t then Err Syntax else fitting (line_step [] t)

abbrev pub line_rest : Step (List Bracket) → Form Tok (Unit {0})
line_rest bad = gives tt
line_rest last = gives tt
line_rest (onward bs) = Run line_step bs

unfoldable pub goes_on_but : List ℕ → Form Tok (Unit {0})
goes_on_but apart = do
  s ← token (line_goes_on apart)
  line_rest s

-- ---- what follows a name behind a declaration's head

-- Meta [ (..) ]: a node
unfoldable pub named_node : Form Tok Before
named_node = do
  _ ← the kinds.Meta
  _ ← optional (group Paren)
  gives befores.Declaration

abbrev pub line_end_or : List ℕ → Bool → Form Tok Before
line_end_or apart true = gives befores.Item
line_end_or apart false = do
  _ ← goes_on_but apart
  gives befores.Item

-- behind a !: { .. } or ( .. ) makes a node; else the line goes on, or has ended
unfoldable pub behind_mark : Bool → Form Tok Before
behind_mark ends = either
    (do
      _ ← group Curly
      gives befores.Declaration)
    (either
    (do
      _ ← group Paren
      gives befores.Declaration)
    (line_end_or BRACES ends))

unfoldable pub marked : Form Tok Before
marked = do
  ends ← one_of BANG ends_line
  behind_mark ends

-- behind a name on a line of its own: a node yet, or another item
unfoldable pub node_yet : Form Tok Before
node_yet = either named_node marked

unfoldable pub node_or_line : Form Tok Before
node_or_line = either named_node (either marked
    (do
      _ ← goes_on_but META
      gives befores.Item))

abbrev pub behind_name : Bool → Form Tok Before
behind_name true = gives befores.Name
behind_name false = node_or_line

-- metadata behind a declaration's head: what stands before what follows it
unfoldable pub metadata_behind : Form Tok Before
metadata_behind = do
  ends ← one_of META ends_line
  behind_name ends
