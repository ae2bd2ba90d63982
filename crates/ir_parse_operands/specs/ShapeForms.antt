-- Shapes (LangRef, "Structure Type", "Array Type", "Opaque Structure Types"): how deep they may nest and how much room
-- they have is handed down, so that no reading goes on with the first token that passes a limit.
use Rattle.std.specs.Prelude.{ℕ, zero, suc, Bool, true, false, ◌&&◌, not, nat_eq, nat_lt, if◌then◌else◌, Option, Some, None, option_map, Result, Ok, Err, List, [], ◌∷◌, drop}
use Rattle.ir_lex.specs.declared.token_kind.TokenKind.TheVariants as kinds
use Rattle.ir_lex.specs.TokenKinds.{number}
use Rattle.ir_lex.specs.Rows.{begins}
use Rattle.ir_lex.specs.Tok.{Tok}
use Rattle.ir_parse_parts.specs.Alphabet.{among}
use Rattle.ir_parse_parts.specs.Chained.{Chain}
use Rattle.ir_parse_parts.specs.declared.fault.TokenFault.{TokenFault}
use Rattle.ir_parse_parts.specs.declared.fault.TokenFault.TheVariants.{Profile, Limit}
use Rattle.ir_parse_parts.specs.Forms.{Form, ◌>>=◌, either, gives, token}
use Rattle.ir_parse_parts.specs.Rules.{is_class, is_valued}
use Rattle.ir_parse_parts.specs.Classes.{tokens, refusal, the, one_of}
use Rattle.ir_parse_parts.specs.Decimals.{decimal}
use Rattle.ir_parse_operands.specs.declared.extents.Align.{Align}
use Rattle.ir_parse_operands.specs.declared.extents.Align.TheVariants.{Eight}
use Rattle.ir_parse_operands.specs.declared.extents.Extent.{Extent}
use Rattle.ir_parse_operands.specs.declared.extents.Room.{Room}
use Rattle.ir_parse_parts.specs.declared.shape.Typed.{Typed}
use Rattle.ir_parse_operands.specs.Extents.{align_by, extent_of, grown, left, no_bytes, room_for, shared, whole}
use Rattle.ir_parse_parts.specs.Literals.{literal}
use Rattle.ir_parse_parts.specs.Operands as operands
use Rattle.ir_parse_parts.specs.Operands.{LOCAL, SCALAR, memory_refusal, width}
use Rattle.ir_parse_parts.specs.Shapes.{Written, int, pointer, array, structure, named, parts_of}

abbrev pub typed : Written → ℕ → Typed
typed shape line = record { shape = shape; line = line }

abbrev pub line_of : Tok → ℕ
line_of t = t.line

-- ---- scalars and type names

abbrev pub is_pointer : Tok → Bool
is_pointer t = nat_eq (number t.kind) (number kinds.Ptr)

abbrev pub scalar_align : Tok → Align
scalar_align t = if is_pointer t then Eight else align_by (width t)

abbrev pub scalar_typed : Tok → Typed
scalar_typed t = typed (if is_pointer t then pointer else int (width t)) t.line

-- there is room for one multiple of its alignment
abbrev pub has_room : Room → Tok → Bool
has_room room t = nat_lt 1 (room_for room (scalar_align t))

abbrev pub too_large : Room → Tok → Bool
too_large room t = among tokens SCALAR t && not (has_room room t)

abbrev pub type_name : Tok → Option Typed
type_name t = option_map (λ name. typed (named name) t.line) (operands.named t)

unfoldable pub is_leaf : Room → Tok → Result Typed TokenFault
is_leaf room t = if among tokens SCALAR t && has_room room t then Ok (scalar_typed t) else is_valued tokens memory_refusal LOCAL type_name t

-- a scalar that has no room is past a limit
unfoldable pub leaf_means : Room → Tok → Result Typed TokenFault
leaf_means room t = if too_large room t then Err Limit else is_leaf room t

-- i8 / i16 / i32 / i64 / ptr / Local
abbrev pub leaf : Room → Form Tok Typed
leaf room = token (is_leaf room)

-- ---- counts

abbrev pub NUMBER : List ℕ
NUMBER = number kinds.Number ∷ []

-- a literal that isn't negative
unfoldable pub counted : ℕ → List ℕ → Option ℕ
counted width text = if begins 45 text then (if nat_eq (decimal (drop 1 text)) 0 then Some 0 else None) else literal width text

abbrev pub count_of : ℕ → Tok → Option ℕ
count_of width t = counted width t.text

-- a number from 0 to 2^64 - 1
abbrev pub count : Form Tok ℕ
count = token (is_valued tokens refusal NUMBER (count_of 64))

-- ---- arrays and structures, over what their parts are

abbrev pub OPEN_BRACKET : List ℕ
OPEN_BRACKET = number kinds.OpenBracket ∷ []

abbrev pub OPEN_BRACE : List ℕ
OPEN_BRACE = number kinds.OpenBrace ∷ []

abbrev pub OPEN_ANGLE : List ℕ
OPEN_ANGLE = number kinds.OpenAngle ∷ []

-- N x shape ]
unfoldable pub elements : (ℕ → Form Tok Typed) → ℕ → Form Tok Typed
elements of line = do
  n ← count
  _ ← the kinds.Times
  e ← of n
  _ ← the kinds.CloseBracket
  gives (typed (array n e.shape) line)

-- [ N x shape ]
unfoldable pub array_of : (ℕ → Form Tok Typed) → Form Tok Typed
array_of of = do
  line ← one_of OPEN_BRACKET line_of
  elements of line

abbrev pub anywhere : Extent → Bool
anywhere s = true

-- , shape
unfoldable pub further : Bool → (Extent → Form Tok Typed) → Extent → Form Tok (Written × Extent)
further packed part s = do
  _ ← the kinds.Comma
  p ← part s
  gives (p.shape, grown packed s (extent_of p.shape))

-- {, shape} }, behind a first member
unfoldable pub more_members : Bool → (Extent → Form Tok Typed) → Written → Form Tok (List Written)
more_members packed part first = do
  more ← Chain anywhere (further packed part) (grown packed no_bytes (extent_of first))
  _ ← the kinds.CloseBrace
  gives (first ∷ more)

-- [shape {, shape}] }
unfoldable pub members : Bool → (Extent → Form Tok Typed) → Form Tok (List Written)
members packed part = either
    (do
      _ ← the kinds.CloseBrace
      gives [])
    (do
      first ← part no_bytes
      more_members packed part first.shape)

-- { .. }
unfoldable pub structure_of : (Extent → Form Tok Typed) → Form Tok Typed
structure_of part = do
  line ← one_of OPEN_BRACE line_of
  parts ← members false part
  gives (typed (structure false (parts_of parts)) line)

-- behind < a number begins a vector, which is left out
abbrev pub angle_refusal : ℕ → TokenFault
angle_refusal class = if nat_eq class (number kinds.Number) then Profile else refusal class

abbrev pub brace_behind_angle : Form Tok (Unit {0})
brace_behind_angle = token (is_class tokens angle_refusal (number kinds.OpenBrace))

-- { .. } >
unfoldable pub packed_behind : (Extent → Form Tok Typed) → ℕ → Form Tok Typed
packed_behind part line = do
  _ ← brace_behind_angle
  parts ← members true part
  _ ← the kinds.CloseAngle
  gives (typed (structure true (parts_of parts)) line)

-- < { .. } >
unfoldable pub packed_of : (Extent → Form Tok Typed) → Form Tok Typed
packed_of part = do
  line ← one_of OPEN_ANGLE line_of
  packed_behind part line

unfoldable pub shape_over : (ℕ → Form Tok Typed) → (Bool → Extent → Form Tok Typed) → Form Tok Typed → Form Tok Typed
shape_over of part innermost = either (array_of of) (either (structure_of (part false)) (either (packed_of (part true)) innermost))

-- ---- shapes

-- so many levels of arrays and structures at most, in so much room
abbrev pub shape : ℕ → Room → Form Tok Typed
shape zero room = leaf room
shape (suc depth) room = shape_over (λ n. shape depth (shared n room)) (λ packed s. shape depth (left packed room s)) (leaf room)

-- of so many levels at most, and of any size
abbrev pub levels : ℕ → Form Tok Typed
levels zero = leaf whole
levels (suc depth) = shape_over (λ n. levels depth) (λ packed s. levels depth) (leaf whole)

-- of any nesting and any size
abbrev pub any_shape : Form Tok Typed
any_shape ts x = (depth : ℕ) × levels depth ts x

-- of 32 levels at most, in 2^31 bytes
unfoldable pub memory_shape : Form Tok Typed
memory_shape = shape 32 whole
