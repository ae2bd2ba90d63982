-- What the readers of phis give.
use Rattle.std.specs.Prelude.{Bool, true, false, Option, Some, None, List, [], ◌∷◌}
use Rattle.std.specs.List.{fold}
use Rattle.ir_lex.specs.declared.token_kind.TokenKind.TheVariants as kinds
use Rattle.ir_lex.specs.Tok.{Tok}
use Rattle.ir_tree.specs.declared.operand.Reg.{Reg}
use Rattle.ir_parse_parts.specs.Alphabet.{among}
use Rattle.ir_parse_parts.specs.Chained.{chain_at}
use Rattle.ir_parse_parts.specs.Readers.{Reader, ◌>>=◌, done, pick}
use Rattle.ir_parse_parts.specs.Classes.{tokens, the_at}
use Rattle.ir_parse_parts.specs.declared.raw.Incoming.{Incoming}
use Rattle.ir_parse_parts.specs.declared.raw.Instr.{Instr}
use Rattle.ir_parse_parts.specs.declared.raw.Instr.TheVariants as instrs
use Rattle.ir_parse_parts.specs.Metadata.{META}
use Rattle.ir_parse_parts.specs.MetadataAt.{COMMA, attached_at}
use Rattle.ir_parse_parts.specs.OperandsAt.{reg_at, local_at}
use Rattle.ir_parse_operands.specs.ValuesAt.{operand_at}
use Rattle.ir_parse_operands.specs.Adding.{anywhere}
use Rattle.ir_parse_bodies.specs.Phis.{keep}

unfoldable pub incoming_at : Reg → Reader Tok Incoming
incoming_at r = do
  _ ← the_at kinds.OpenBracket
  v ← operand_at r
  _ ← the_at kinds.Comma
  from ← local_at
  _ ← the_at kinds.CloseBracket
  done (record { value = v; from = from })

unfoldable pub attaching_at : Reader Tok (Option Incoming × Bool)
attaching_at = do
  _ ← attached_at
  done (None, true)

unfoldable pub entering_at : Reg → Reader Tok (Option Incoming × Bool)
entering_at r = do
  i ← incoming_at r
  done (Some i, false)

abbrev pub behind_comma_at : Reg → Bool → Reader Tok (Option Incoming × Bool)
behind_comma_at r true = attaching_at
behind_comma_at r false = pick (among tokens META) attaching_at (entering_at r)

unfoldable pub further_at : Reg → Bool → Reader Tok (Option Incoming × Bool)
further_at r s = do
  _ ← the_at kinds.Comma
  behind_comma_at r s

abbrev pub begins : Bool → Tok → Bool
begins s = among tokens COMMA

unfoldable pub entries_at : Reg → Incoming → Reader Tok (List Incoming)
entries_at r first = do
  more ← chain_at anywhere begins (further_at r) false
  done (fold keep (first ∷ []) more)

-- the first entry, and those behind it
abbrev pub all_entries_at : Reg → Reader Tok (List Incoming)
all_entries_at r = do
  first ← incoming_at r
  entries_at r first

unfoldable pub phi_of_at : Reg → Reader Tok Instr
phi_of_at r = do
  first ← incoming_at r
  is ← entries_at r first
  done (instrs.Phi r is)

unfoldable pub phi_at : Reader Tok Instr
phi_at = do
  r ← reg_at
  phi_of_at r
