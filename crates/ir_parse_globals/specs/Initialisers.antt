-- Initialisers of variables (LangRef, "Global Variables", "Complex Constants"). They nest as deep as their text does, so
-- the parts of an aggregate are pieces one behind another, and which aggregates are open is a list.
use Rattle.std.specs.Prelude.{ℕ, Bool, true, false, Option, Some, None, List, [], ◌∷◌, ◌++◌}
use Rattle.ir_lex.specs.declared.token_kind.TokenKind.{TokenKind}
use Rattle.ir_lex.specs.declared.token_kind.TokenKind.TheVariants as kinds
use Rattle.ir_lex.specs.TokenKinds.{number}
use Rattle.ir_lex.specs.Tok.{Tok}
use Rattle.ir_tree.specs.declared.operand.Reg.{Reg}
use Rattle.ir_tree.specs.declared.operand.Reg.TheVariants.{Int, Ptr}
use Rattle.ir_parse_parts.specs.Balanced.{none_open}
use Rattle.ir_parse_parts.specs.Chained.{Chain}
use Rattle.ir_parse_parts.specs.declared.fault.TokenFault.{TokenFault}
use Rattle.ir_parse_parts.specs.Forms.{Form, ◌>>=◌, either, gives, token}
use Rattle.ir_parse_parts.specs.Rules.{is_class}
use Rattle.ir_parse_parts.specs.Classes.{tokens, refusal, the, one_of}
use Rattle.ir_parse_parts.specs.declared.raw.Init.{Init}
use Rattle.ir_parse_parts.specs.declared.raw.InitHead.{InitHead}
use Rattle.ir_parse_parts.specs.declared.raw.InitHead.TheVariants as inits
use Rattle.ir_parse_parts.specs.declared.raw.InitPart.{InitPart}
use Rattle.ir_parse_parts.specs.declared.raw.InitPart.TheVariants as init_parts
use Rattle.ir_parse_parts.specs.declared.shape.Typed.{Typed}
use Rattle.ir_parse_parts.specs.Operands.{memory_refusal}
use Rattle.ir_parse_operands.specs.ShapeForms.{brace_behind_angle}
use Rattle.ir_parse_parts.specs.Shapes.{Written, int, pointer, array, structure, named}
use Rattle.ir_parse_globals.specs.Constants.{constant}
use Rattle.ir_parse_globals.specs.declared.initialisers.Aggregate.{Aggregate}
use Rattle.ir_parse_globals.specs.declared.initialisers.Aggregate.TheVariants as aggregates

-- the scalar that a shape is, if it is one
abbrev pub scalar_of : Written → Option Reg
scalar_of (int w) = Some (Int w)
scalar_of pointer = Some Ptr
scalar_of (array n of) = None
scalar_of (structure packed parts) = None
scalar_of (named name) = None

-- ---- what an initialiser begins with

abbrev pub BYTES : List ℕ
BYTES = number kinds.CStr ∷ []

-- zeroinitializer
unfoldable pub zeros : Form Tok InitHead
zeros = do
  _ ← the kinds.ZeroInitializer
  gives inits.Zeros

-- c".."
unfoldable pub bytes : Form Tok InitHead
bytes = one_of BYTES (λ t. inits.Bytes t)

-- [
unfoldable pub array_begin : Form Tok InitHead
array_begin = do
  _ ← the kinds.OpenBracket
  gives inits.Array

-- {
unfoldable pub structure_begin : Form Tok InitHead
structure_begin = do
  _ ← the kinds.OpenBrace
  gives (inits.Struct false)

-- < {
unfoldable pub packed_begin : Form Tok InitHead
packed_begin = do
  _ ← the kinds.OpenAngle
  _ ← brace_behind_angle
  gives (inits.Struct true)

unfoldable pub aggregate_begin : Form Tok InitHead
aggregate_begin = either array_begin (either structure_begin packed_begin)

-- zeroinitializer / c".." / [ / { / < { / an operand that is no Local
unfoldable pub beginning : Form Tok Typed → Option Reg → Form Tok InitHead
beginning shape scalar = either zeros (either bytes (either aggregate_begin (constant shape scalar)))

-- ---- what closes an aggregate

abbrev pub aggregate_of : InitHead → Option Aggregate
aggregate_of (inits.Plain v) = None
aggregate_of inits.Zeros = None
aggregate_of (inits.Bytes string) = None
aggregate_of (inits.Number t) = None
aggregate_of inits.Array = Some aggregates.Array
aggregate_of (inits.Struct packed) = Some (aggregates.Struct packed)

-- the beginning of an initialiser of this aggregate
abbrev pub opening : Aggregate → InitHead
opening aggregates.Array = inits.Array
opening (aggregates.Struct packed) = inits.Struct packed

-- where none of its parts stands, a shape may stand there as well
abbrev pub closing_refusal : Bool → ℕ → TokenFault
closing_refusal true class = memory_refusal class
closing_refusal false class = refusal class

abbrev pub mark : Bool → TokenKind → Form Tok (Unit {0})
mark none wanted = token (is_class tokens (closing_refusal none) (number wanted))

abbrev pub angle : Bool → Form Tok (Unit {0})
angle true = the kinds.CloseAngle
angle false = gives tt

-- } / } >
unfoldable pub brace : Bool → Bool → Form Tok (Unit {0})
brace none packed = do
  _ ← mark none kinds.CloseBrace
  angle packed

-- ] / } / } >
abbrev pub closing : Bool → Aggregate → Form Tok (Unit {0})
closing none aggregates.Array = mark none kinds.CloseBracket
closing none (aggregates.Struct packed) = brace none packed

-- ---- parts

-- where a part may stand: whether it is the first of its aggregate, and which aggregates are open in the whole, the
-- innermost first
abbrev pub Spot : Type 0
Spot = Bool × List Aggregate

-- behind the beginning of an initialiser
abbrev pub entered : Option Aggregate → List Aggregate → Spot
entered None open_ones = (false, open_ones)
entered (Some a) open_ones = (true, a ∷ open_ones)

-- shape, with a comma before it where it is not the first
abbrev pub part_shape : Form Tok Typed → Bool → Form Tok Typed
part_shape shape true = shape
part_shape shape false = do
  _ ← the kinds.Comma
  shape

-- [,] shape init, up to the parts of the init
unfoldable pub part : Form Tok Typed → Bool → Form Tok (Typed × InitHead)
part shape first = do
  typed ← part_shape shape first
  head ← beginning shape (scalar_of typed.shape)
  gives (typed, head)

unfoldable pub begun : Form Tok Typed → Bool → List Aggregate → Form Tok (InitPart × Spot)
begun shape first open_ones = do
  p ← part shape first
  gives (init_parts.Typed p.0 p.1, entered (aggregate_of p.1) open_ones)

-- the end of the parts of this aggregate, inside these
unfoldable pub closed : Aggregate → List Aggregate → Form Tok (InitPart × Spot)
closed inner outer = do
  _ ← closing false inner
  gives (init_parts.End, (false, outer))

abbrev pub piece : Form Tok Typed → Bool → List Aggregate → Form Tok (InitPart × Spot)
piece shape first [] = begun shape first []
piece shape first (inner ∷ outer) = either (closed inner outer) (begun shape first (inner ∷ outer))

-- no aggregate within the whole is open
abbrev pub outermost : Spot → Bool
outermost s = none_open s.1

-- [shape init {, shape init}], all parts in the order of the text, each before its own parts and their end
abbrev pub listed : Form Tok Typed → Form Tok (List InitPart)
listed shape = Chain outermost (λ s. piece shape s.0 s.1) (true, [])

abbrev pub is_none : List InitPart → Bool
is_none [] = true
is_none (p ∷ ps) = false

-- the same, and what closes the whole
unfoldable pub parts : Form Tok Typed → Aggregate → Form Tok (List InitPart)
parts shape whole = do
  ps ← listed shape
  _ ← closing (is_none ps) whole
  gives (ps ++ init_parts.End ∷ [])

abbrev pub behind : Form Tok Typed → Option Aggregate → Form Tok (List InitPart)
behind shape None = gives []
behind shape (Some whole) = parts shape whole

-- operand but no Local / zeroinitializer / c".." / [ typed inits ] / { typed inits } / < { typed inits } >
unfoldable pub initialiser : Form Tok Typed → Option Reg → Form Tok Init
initialiser shape scalar = do
  root ← beginning shape scalar
  ps ← behind shape (aggregate_of root)
  gives (record { root = root; parts = ps })
