-- `alloca` and `getelementptr` (LangRef, "alloca Instruction", "getelementptr Instruction"), over what spells a shape.
use Rattle.std.specs.Prelude.{ℕ, ◌*◌, max, nat_eq, nat_le, Bool, true, false, ◌&&◌, ◌||◌, if◌then◌else◌, Option, Some, None, Result, List, [], ◌∷◌, ◌++◌}
use Rattle.std.specs.List.{fold}
use Rattle.ir_lex.specs.declared.token_kind.TokenKind.TheVariants as kinds
use Rattle.ir_lex.specs.Tok.{Tok}
use Rattle.ir_tree.specs.declared.operand.Reg.TheVariants.{Ptr}
use Rattle.ir_parse_parts.specs.Chained.{Chain}
use Rattle.ir_parse_parts.specs.declared.fault.TokenFault.{TokenFault}
use Rattle.ir_parse_parts.specs.Forms.{Form, ◌>>=◌, either, gives, token}
use Rattle.ir_parse_parts.specs.Rules.{is_valued}
use Rattle.ir_parse_parts.specs.Classes.{tokens, refusal, the}
use Rattle.ir_parse_operands.specs.declared.addressing.Slots.{Slots}
use Rattle.ir_parse_parts.specs.declared.raw.Argument.{Argument}
use Rattle.ir_parse_parts.specs.declared.raw.Instr.{Instr}
use Rattle.ir_parse_parts.specs.declared.raw.Instr.TheVariants as instrs
use Rattle.ir_parse_parts.specs.declared.shape.Typed.{Typed}
use Rattle.ir_parse_operands.specs.Extents.{extent_of, nests_within}
use Rattle.ir_parse_operands.specs.Alignments.{aligned, align}
use Rattle.ir_parse_parts.specs.Metadata.{attached}
use Rattle.ir_parse_parts.specs.Operands.{integer}
use Rattle.ir_parse_operands.specs.Adding.{anywhere}
use Rattle.ir_parse_operands.specs.ShapeForms.{NUMBER, count_of}
use Rattle.ir_parse_parts.specs.Shapes.{Written}
use Rattle.ir_parse_operands.specs.Values.{pointer, stepping, operand, argument}

-- ---- alloca

abbrev pub slots : ℕ → Option ℕ → Slots
slots count align = record { count = count; align = align }

-- any other count than 1 makes an array of so many of the shape, which has a level more: within the limits
abbrev pub slots_fit : Written → ℕ → Bool
slots_fit s n = nat_eq n 1 || (nests_within 31 s && nat_le (n * (extent_of s).size) 2147483648)

-- without the limits
abbrev pub any_slots : Written → ℕ → Bool
any_slots s n = true

abbrev pub fitting : (ℕ → Bool) → Option ℕ → Option ℕ
fitting fits None = None
fitting fits (Some n) = if fits n then Some n else None

-- a literal that isn't negative and fits; an integer has at least one bit
abbrev pub fitting_count : (ℕ → Bool) → ℕ → Tok → Option ℕ
fitting_count fits w t = fitting fits (count_of (max 1 w) t)

abbrev pub is_count : (ℕ → Bool) → ℕ → Tok → Result ℕ TokenFault
is_count fits w t = is_valued tokens refusal NUMBER (fitting_count fits w) t

abbrev pub count_in : (ℕ → Bool) → ℕ → Form Tok ℕ
count_in fits w = token (is_count fits w)

-- iN Number [, align N] {att}
unfoldable pub many_slots : (ℕ → Bool) → Form Tok Slots
many_slots fits = do
  w ← integer
  n ← count_in fits w
  a ← align
  gives (slots n a)

-- align N {att} / Meta node {att}
unfoldable pub one_slot : Form Tok Slots
one_slot = do
  a ← aligned
  gives (slots 1 a)

-- [, iN Number] [, align N] {att}
unfoldable pub slots_behind : (ℕ → Bool) → Form Tok Slots
slots_behind fits = either
    (do
      _ ← the kinds.Comma
      either one_slot (many_slots fits))
    (gives (slots 1 None))

-- shape [, iN Number] [, align N] {att}, over which counts of a shape fit
unfoldable pub reserving : (Written → ℕ → Bool) → Form Tok Typed → Form Tok Instr
reserving fits shape = do
  typed ← shape
  s ← slots_behind (fits typed.shape)
  gives (instrs.Alloca typed s.count s.align)

-- ---- getelementptr

-- an index, behind which another or an attachment may stand
unfoldable pub indexing : Form Tok Typed → Form Tok (Option Argument × Bool)
indexing shape = do
  a ← argument shape
  gives (Some a, false)

-- an attachment, behind which only attachments follow
unfoldable pub attaching : Form Tok (Option Argument × Bool)
attaching = do
  _ ← attached
  gives (None, true)

-- behind a comma, with attachments before or not
abbrev pub behind_comma : Form Tok Typed → Bool → Form Tok (Option Argument × Bool)
behind_comma shape true = attaching
behind_comma shape false = either attaching (indexing shape)

-- , reg operand / , Meta node
unfoldable pub further : Form Tok Typed → Bool → Form Tok (Option Argument × Bool)
further shape s = do
  _ ← the kinds.Comma
  behind_comma shape s

abbrev pub keep : List Argument → Option Argument → List Argument
keep front None = front
keep front (Some a) = front ++ a ∷ []

-- {, reg operand} {, Meta node}
unfoldable pub indices : Form Tok Typed → Form Tok (List Argument)
indices shape = do
  all ← Chain anywhere (further shape) false
  gives (fold keep [] all)

-- {inbounds/nuw/nusw} shape , ptr operand {, reg operand} {att}
unfoldable pub addressing : Form Tok Typed → Form Tok Instr
addressing shape = do
  inbounds ← stepping
  typed ← shape
  _ ← the kinds.Comma
  _ ← pointer
  base ← operand shape Ptr
  is ← indices shape
  gives (instrs.Address inbounds typed base is)
