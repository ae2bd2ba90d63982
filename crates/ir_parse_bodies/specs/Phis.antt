-- Phis (LangRef, "phi Instruction").
use Rattle.std.specs.Prelude.{Bool, true, false, Option, Some, None, List, [], ◌∷◌, ◌++◌}
use Rattle.std.specs.List.{fold}
use Rattle.ir_lex.specs.declared.token_kind.TokenKind.TheVariants as kinds
use Rattle.ir_lex.specs.Tok.{Tok}
use Rattle.ir_tree.specs.declared.operand.Reg.{Reg}
use Rattle.ir_parse_parts.specs.Chained.{Chain}
use Rattle.ir_parse_parts.specs.Forms.{Form, ◌>>=◌, either, gives}
use Rattle.ir_parse_parts.specs.Classes.{the}
use Rattle.ir_parse_parts.specs.declared.raw.Incoming.{Incoming}
use Rattle.ir_parse_parts.specs.declared.raw.Instr.{Instr}
use Rattle.ir_parse_parts.specs.declared.raw.Instr.TheVariants as instrs
use Rattle.ir_parse_parts.specs.Metadata.{attached}
use Rattle.ir_parse_parts.specs.declared.shape.Typed.{Typed}
use Rattle.ir_parse_parts.specs.Operands.{reg, local}
use Rattle.ir_parse_operands.specs.Adding.{anywhere}
use Rattle.ir_parse_operands.specs.Values.{operand}

-- [ operand , Local ]
unfoldable pub incoming : Form Tok Typed → Reg → Form Tok Incoming
incoming shape r = do
  _ ← the kinds.OpenBracket
  v ← operand shape r
  _ ← the kinds.Comma
  from ← local
  _ ← the kinds.CloseBracket
  gives (record { value = v; from = from })

-- an attachment, behind which only attachments follow
unfoldable pub attaching : Form Tok (Option Incoming × Bool)
attaching = do
  _ ← attached
  gives (None, true)

unfoldable pub entering : Form Tok Typed → Reg → Form Tok (Option Incoming × Bool)
entering shape r = do
  i ← incoming shape r
  gives (Some i, false)

-- behind a comma, with attachments before or not
abbrev pub behind_comma : Form Tok Typed → Reg → Bool → Form Tok (Option Incoming × Bool)
behind_comma shape r true = attaching
behind_comma shape r false = either attaching (entering shape r)

-- , [ operand , Local ] / , Meta node
unfoldable pub further : Form Tok Typed → Reg → Bool → Form Tok (Option Incoming × Bool)
further shape r s = do
  _ ← the kinds.Comma
  behind_comma shape r s

abbrev pub keep : List Incoming → Option Incoming → List Incoming
keep front None = front
keep front (Some i) = front ++ i ∷ []

-- {, [ operand , Local ]} {, Meta node}, behind a first entry
unfoldable pub entries : Form Tok Typed → Reg → Incoming → Form Tok (List Incoming)
entries shape r first = do
  more ← Chain anywhere (further shape r) false
  gives (fold keep (first ∷ []) more)

-- reg [ operand , Local ] {, [ operand , Local ]} {att}
unfoldable pub phi_of : Form Tok Typed → Reg → Form Tok Instr
phi_of shape r = do
  first ← incoming shape r
  is ← entries shape r first
  gives (instrs.Phi r is)

unfoldable pub phi : Form Tok Typed → Form Tok Instr
phi shape = do
  r ← reg
  phi_of shape r
