-- What the readers of shapes give.
use Rattle.std.specs.Prelude.{ℕ, zero, suc, Bool, true, false, List, [], ◌∷◌, if◌then◌else◌}
use Rattle.ir_lex.specs.declared.token_kind.TokenKind.TheVariants as kinds
use Rattle.ir_lex.specs.TokenKinds.{number}
use Rattle.ir_lex.specs.Tok.{Tok}
use Rattle.ir_parse_parts.specs.Alphabet.{among}
use Rattle.ir_parse_parts.specs.Chained.{chain_at}
use Rattle.ir_parse_parts.specs.declared.fault.TokenFault.TheVariants.{Limit}
use Rattle.ir_parse_parts.specs.Readers.{Reader, ◌>>=◌, done, fault_at, pick, token_at}
use Rattle.ir_parse_parts.specs.Rules.{is_class, is_valued}
use Rattle.ir_parse_parts.specs.Ahead.{BRACKETS}
use Rattle.ir_parse_parts.specs.Classes.{tokens, refusal, the_at, one_of_at}
use Rattle.ir_parse_operands.specs.declared.extents.Extent.{Extent}
use Rattle.ir_parse_operands.specs.declared.extents.Room.{Room}
use Rattle.ir_parse_operands.specs.declared.shapes.Head.{Head}
use Rattle.ir_parse_operands.specs.declared.shapes.Head.TheVariants.{Array, Structure}
use Rattle.ir_parse_parts.specs.declared.shape.Typed.{Typed}
use Rattle.ir_parse_operands.specs.Extents.{extent_of, grown, left, no_bytes, shared, whole}
use Rattle.ir_parse_parts.specs.MetadataAt.{COMMA}
use Rattle.ir_parse_operands.specs.ShapeForms.{typed, line_of, leaf_means, NUMBER, count_of, OPEN_BRACKET, OPEN_BRACE, OPEN_ANGLE, anywhere, angle_refusal}
use Rattle.ir_parse_parts.specs.Shapes.{Written, array, structure, parts_of}

abbrev pub CLOSE_BRACE : List ℕ
CLOSE_BRACE = number kinds.CloseBrace ∷ []

abbrev pub leaf_at : Room → Reader Tok Typed
leaf_at room = token_at (leaf_means room)

-- where no array and no structure may begin
unfoldable pub innermost_at : Room → Reader Tok Typed
innermost_at room = pick (among tokens BRACKETS) (fault_at Limit) (leaf_at room)

abbrev pub count_at : Reader Tok ℕ
count_at = token_at (is_valued tokens refusal NUMBER (count_of 64))

unfoldable pub elements_at : (ℕ → Reader Tok Typed) → ℕ → Reader Tok Typed
elements_at of line = do
  n ← count_at
  _ ← the_at kinds.Times
  e ← of n
  _ ← the_at kinds.CloseBracket
  done (typed (array n e.shape) line)

unfoldable pub array_at : (ℕ → Reader Tok Typed) → Reader Tok Typed
array_at of = do
  line ← one_of_at OPEN_BRACKET line_of
  elements_at of line

-- [ N x, the line of the bracket and the count
unfoldable pub array_head_at : Reader Tok (ℕ × ℕ)
array_head_at = do
  line ← one_of_at OPEN_BRACKET line_of
  n ← count_at
  _ ← the_at kinds.Times
  done (line, n)

-- ], behind an element
abbrev pub closed_array_at : ℕ → ℕ → Written → Reader Tok Typed
closed_array_at n line e = do
  _ ← the_at kinds.CloseBracket
  done (typed (array n e) line)

unfoldable pub further_at : Bool → (Extent → Reader Tok Typed) → Extent → Reader Tok (Written × Extent)
further_at packed part s = do
  _ ← the_at kinds.Comma
  p ← part s
  done (p.shape, grown packed s (extent_of p.shape))

abbrev pub begins : Extent → Tok → Bool
begins s = among tokens COMMA

unfoldable pub more_members_at : Bool → (Extent → Reader Tok Typed) → Written → Reader Tok (List Written)
more_members_at packed part first = do
  more ← chain_at anywhere begins (further_at packed part) (grown packed no_bytes (extent_of first))
  _ ← the_at kinds.CloseBrace
  done (first ∷ more)

-- a member behind others, and those behind it
abbrev pub members_on_at : Bool → (Extent → Reader Tok Typed) → Extent → Reader Tok (List Written)
members_on_at packed part s = do
  p ← part s
  more ← chain_at anywhere begins (further_at packed part) (grown packed s (extent_of p.shape))
  done (p.shape ∷ more)

-- a comma, if one comes
abbrev pub comma_at : Reader Tok Bool
comma_at = pick (among tokens COMMA)
    (do
      _ ← the_at kinds.Comma
      done true)
    (done false)

unfoldable pub members_at : Bool → (Extent → Reader Tok Typed) → Reader Tok (List Written)
members_at packed part = pick (among tokens CLOSE_BRACE)
    (do
      _ ← the_at kinds.CloseBrace
      done [])
    (do
      first ← part no_bytes
      more_members_at packed part first.shape)

-- members, up to the brace behind them
unfoldable pub inner_at : Bool → (Extent → Reader Tok Typed) → Reader Tok (List Written)
inner_at packed part = pick (among tokens CLOSE_BRACE) (done []) (members_on_at packed part no_bytes)

unfoldable pub structure_at : (Extent → Reader Tok Typed) → Reader Tok Typed
structure_at part = do
  line ← one_of_at OPEN_BRACE line_of
  parts ← members_at false part
  done (typed (structure false (parts_of parts)) line)

abbrev pub brace_behind_angle_at : Reader Tok (Unit {0})
brace_behind_angle_at = token_at (is_class tokens angle_refusal (number kinds.OpenBrace))

-- < {, the line of the first
unfoldable pub packed_head_at : Reader Tok ℕ
packed_head_at = do
  line ← one_of_at OPEN_ANGLE line_of
  _ ← brace_behind_angle_at
  done line

unfoldable pub packed_behind_at : (Extent → Reader Tok Typed) → ℕ → Reader Tok Typed
packed_behind_at part line = do
  _ ← brace_behind_angle_at
  parts ← members_at true part
  _ ← the_at kinds.CloseAngle
  done (typed (structure true (parts_of parts)) line)

unfoldable pub packed_at : (Extent → Reader Tok Typed) → Reader Tok Typed
packed_at part = do
  line ← one_of_at OPEN_ANGLE line_of
  packed_behind_at part line

-- [ N x, { or < {
unfoldable pub bracketed_at : Reader Tok Head
bracketed_at = pick (among tokens OPEN_BRACKET)
    (do
      h ← array_head_at
      done (Array h.0 h.1))
    (pick (among tokens OPEN_BRACE)
    (do
      line ← one_of_at OPEN_BRACE line_of
      done (Structure false line))
    (do
      line ← packed_head_at
      done (Structure true line)))

-- the head of an array or a structure, none of which may begin where no level is left
abbrev pub head_at : ℕ → Reader Tok Head
head_at zero = fault_at Limit
head_at (suc depth) = bracketed_at

-- } or } >
unfoldable pub structure_end_at : Bool → Reader Tok (Unit {0})
structure_end_at packed = do
  _ ← the_at kinds.CloseBrace
  if packed then the_at kinds.CloseAngle else done tt

-- the end of a structure, behind its members
abbrev pub closed_structure_at : Bool → ℕ → List Written → Reader Tok Typed
closed_structure_at packed line parts = do
  _ ← structure_end_at packed
  done (typed (structure packed (parts_of parts)) line)

unfoldable pub shape_over_at : (ℕ → Reader Tok Typed) → (Bool → Extent → Reader Tok Typed) → Reader Tok Typed → Reader Tok Typed
shape_over_at of part innermost = pick (among tokens OPEN_BRACKET) (array_at of) (pick (among tokens OPEN_BRACE) (structure_at (part false)) (pick (among tokens OPEN_ANGLE) (packed_at (part true)) innermost))

abbrev pub shape_at : ℕ → Room → Reader Tok Typed
shape_at zero room = innermost_at room
shape_at (suc depth) room = shape_over_at (λ n. shape_at depth (shared n room)) (λ packed s. shape_at depth (left packed room s)) (leaf_at room)

unfoldable pub memory_shape_at : Reader Tok Typed
memory_shape_at = shape_at 32 whole
