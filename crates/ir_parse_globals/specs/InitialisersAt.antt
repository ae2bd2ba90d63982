-- What the readers of initialisers give.
use Rattle.std.specs.Prelude.{ℕ, Bool, true, false, Option, Some, None, List, [], ◌∷◌, ◌++◌}
use Rattle.ir_lex.specs.declared.token_kind.TokenKind.{TokenKind}
use Rattle.ir_lex.specs.declared.token_kind.TokenKind.TheVariants as kinds
use Rattle.ir_lex.specs.TokenKinds.{number}
use Rattle.ir_lex.specs.Tok.{Tok}
use Rattle.ir_tree.specs.declared.operand.Reg.{Reg}
use Rattle.ir_parse_parts.specs.Alphabet.{among}
use Rattle.ir_parse_parts.specs.Chained.{chain_at}
use Rattle.ir_parse_parts.specs.Readers.{Reader, ◌>>=◌, done, pick, token_at}
use Rattle.ir_parse_parts.specs.Rules.{is_class}
use Rattle.ir_parse_parts.specs.Ahead.{BRACKETS}
use Rattle.ir_parse_parts.specs.Classes.{tokens, the_at, one_of_at}
use Rattle.ir_parse_parts.specs.declared.raw.Init.{Init}
use Rattle.ir_parse_parts.specs.declared.raw.InitHead.{InitHead}
use Rattle.ir_parse_parts.specs.declared.raw.InitHead.TheVariants as inits
use Rattle.ir_parse_parts.specs.declared.raw.InitPart.{InitPart}
use Rattle.ir_parse_parts.specs.declared.raw.InitPart.TheVariants as init_parts
use Rattle.ir_parse_parts.specs.declared.shape.Typed.{Typed}
use Rattle.ir_parse_parts.specs.MetadataAt.{COMMA}
use Rattle.ir_parse_parts.specs.Operands.{LOCAL, SCALAR}
use Rattle.ir_parse_operands.specs.ShapeForms.{OPEN_BRACKET, OPEN_BRACE}
use Rattle.ir_parse_operands.specs.ShapeFormsAt.{brace_behind_angle_at, memory_shape_at}
use Rattle.ir_parse_globals.specs.ConstantsAt.{constant_at}
use Rattle.ir_parse_globals.specs.Initialisers.{scalar_of, BYTES, aggregate_of, closing_refusal, Spot, entered, outermost, is_none}
use Rattle.ir_parse_globals.specs.declared.initialisers.Aggregate.{Aggregate}
use Rattle.ir_parse_globals.specs.declared.initialisers.Aggregate.TheVariants as aggregates

abbrev pub ZEROS : List ℕ
ZEROS = number kinds.ZeroInitializer ∷ []

unfoldable pub zeros_at : Reader Tok InitHead
zeros_at = do
  _ ← the_at kinds.ZeroInitializer
  done inits.Zeros

unfoldable pub bytes_at : Reader Tok InitHead
bytes_at = one_of_at BYTES (λ t. inits.Bytes t)

unfoldable pub array_begin_at : Reader Tok InitHead
array_begin_at = do
  _ ← the_at kinds.OpenBracket
  done inits.Array

unfoldable pub structure_begin_at : Reader Tok InitHead
structure_begin_at = do
  _ ← the_at kinds.OpenBrace
  done (inits.Struct false)

unfoldable pub packed_begin_at : Reader Tok InitHead
packed_begin_at = do
  _ ← the_at kinds.OpenAngle
  _ ← brace_behind_angle_at
  done (inits.Struct true)

unfoldable pub aggregate_begin_at : Reader Tok InitHead
aggregate_begin_at = pick (among tokens OPEN_BRACKET) array_begin_at (pick (among tokens OPEN_BRACE) structure_begin_at packed_begin_at)

unfoldable pub beginning_at : Option Reg → Reader Tok InitHead
beginning_at scalar = pick (among tokens ZEROS) zeros_at (pick (among tokens BYTES) bytes_at (pick (among tokens BRACKETS) aggregate_begin_at (constant_at scalar)))

abbrev pub mark_at : Bool → TokenKind → Reader Tok (Unit {0})
mark_at none wanted = token_at (is_class tokens (closing_refusal none) (number wanted))

abbrev pub angle_at : Bool → Reader Tok (Unit {0})
angle_at true = the_at kinds.CloseAngle
angle_at false = done tt

unfoldable pub brace_at : Bool → Bool → Reader Tok (Unit {0})
brace_at none packed = do
  _ ← mark_at none kinds.CloseBrace
  angle_at packed

abbrev pub closing_at : Bool → Aggregate → Reader Tok (Unit {0})
closing_at none aggregates.Array = mark_at none kinds.CloseBracket
closing_at none (aggregates.Struct packed) = brace_at none packed

abbrev pub part_shape_at : Bool → Reader Tok Typed
part_shape_at true = memory_shape_at
part_shape_at false = do
  _ ← the_at kinds.Comma
  memory_shape_at

unfoldable pub part_at : Bool → Reader Tok (Typed × InitHead)
part_at first = do
  typed ← part_shape_at first
  head ← beginning_at (scalar_of typed.shape)
  done (typed, head)

unfoldable pub begun_at : Bool → List Aggregate → Reader Tok (InitPart × Spot)
begun_at first open_ones = do
  p ← part_at first
  done (init_parts.Typed p.0 p.1, entered (aggregate_of p.1) open_ones)

unfoldable pub closed_at : Aggregate → List Aggregate → Reader Tok (InitPart × Spot)
closed_at inner outer = do
  _ ← closing_at false inner
  done (init_parts.End, (false, outer))

-- what closes an aggregate begins with
abbrev pub CLOSER : Aggregate → List ℕ
CLOSER aggregates.Array = number kinds.CloseBracket ∷ []
CLOSER (aggregates.Struct packed) = number kinds.CloseBrace ∷ []

abbrev pub piece_at : Bool → List Aggregate → Reader Tok (InitPart × Spot)
piece_at first [] = begun_at first []
piece_at first (inner ∷ outer) = pick (among tokens (CLOSER inner)) (closed_at inner outer) (begun_at first (inner ∷ outer))

-- what a shape begins with
abbrev pub SHAPE : List ℕ
SHAPE = BRACKETS ++ LOCAL ++ SCALAR

-- what a part begins with
abbrev pub PART : Bool → List ℕ
PART true = SHAPE
PART false = COMMA

abbrev pub BEGINNINGS : Bool → List Aggregate → List ℕ
BEGINNINGS first [] = PART first
BEGINNINGS first (inner ∷ outer) = CLOSER inner ++ PART first

abbrev pub begins_there : Spot → Tok → Bool
begins_there s = among tokens (BEGINNINGS s.0 s.1)

abbrev pub there_at : Spot → Reader Tok (InitPart × Spot)
there_at s = piece_at s.0 s.1

abbrev pub listed_at : Reader Tok (List InitPart)
listed_at = chain_at outermost begins_there there_at (true, [])

unfoldable pub parts_at : Aggregate → Reader Tok (List InitPart)
parts_at whole = do
  ps ← listed_at
  _ ← closing_at (is_none ps) whole
  done (ps ++ init_parts.End ∷ [])

abbrev pub behind_at : Option Aggregate → Reader Tok (List InitPart)
behind_at None = done []
behind_at (Some whole) = parts_at whole

unfoldable pub initialiser_at : Option Reg → Reader Tok Init
initialiser_at scalar = do
  root ← beginning_at scalar
  ps ← behind_at (aggregate_of root)
  done (record { root = root; parts = ps })
