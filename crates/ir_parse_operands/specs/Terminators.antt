-- Terminators (LangRef, "Terminator Instructions").
use Rattle.std.specs.Prelude.{ℕ, Option, Some, None, option_map, Result, Err, List, [], ◌∷◌}
use Rattle.ir_lex.specs.declared.token_kind.TokenKind.{TokenKind}
use Rattle.ir_lex.specs.declared.token_kind.TokenKind.TheVariants as kinds
use Rattle.ir_lex.specs.TokenKinds.{number}
use Rattle.ir_lex.specs.Tok.{Tok}
use Rattle.ir_tree.specs.declared.operand.Reg.{Reg}
use Rattle.ir_tree.specs.declared.operand.Reg.TheVariants.{Int, Ptr}
use Rattle.ir_parse_parts.specs.declared.fault.TokenFault.{TokenFault}
use Rattle.ir_parse_parts.specs.declared.fault.TokenFault.TheVariants.{Syntax}
use Rattle.ir_parse_parts.specs.Forms.{Form, ◌>>=◌, either, gives, token, Star}
use Rattle.ir_parse_parts.specs.Rules.{in_range, is_class, is_valued}
use Rattle.ir_parse_parts.specs.Classes.{tokens, refusal, the, one_of}
use Rattle.ir_parse_parts.specs.declared.raw.Case.{Case}
use Rattle.ir_parse_parts.specs.declared.raw.Terminator.{Terminator}
use Rattle.ir_parse_parts.specs.declared.raw.Terminator.TheVariants as terminators
use Rattle.ir_parse_parts.specs.declared.shape.Typed.{Typed}
use Rattle.ir_parse_operands.specs.declared.terminators.Ending.{Ending}
use Rattle.ir_parse_operands.specs.declared.terminators.End.{End}
use Rattle.ir_parse_operands.specs.declared.terminators.End.TheVariants as end
use Rattle.ir_parse_operands.specs.declared.terminators.Ended.{Ended}
use Rattle.ir_parse_operands.specs.declared.terminators.Matched.{Matched}
use Rattle.ir_parse_parts.specs.Literals.{literal}
use Rattle.ir_parse_parts.specs.Metadata.{attachments}
use Rattle.ir_parse_parts.specs.Operands.{type_refusal, reg, integer, bit, result, local}
use Rattle.ir_parse_operands.specs.Values.{operand}

-- reg operand, where the type was read; nothing behind void
abbrev pub returned : Form Tok Typed → Option Reg → Form Tok Terminator
returned shape None = gives (terminators.Return None)
returned shape (Some r) = do
  v ← operand shape r
  gives (terminators.Return (Some (record { reg = r; operand = v })))

-- void / reg operand
unfoldable pub returning : Form Tok Typed → Form Tok Terminator
returning shape = do
  r ← result
  returned shape r

-- label Local
unfoldable pub target : Form Tok Tok
target = do
  _ ← the kinds.LabelType
  local

-- label Local / i1 operand , label Local , label Local
unfoldable pub branching : Form Tok Typed → Form Tok Terminator
branching shape = either
    (do
      to ← target
      gives (terminators.Jump to))
    (do
      w ← bit
      condition ← operand shape (Int w)
      _ ← the kinds.Comma
      if_true ← target
      _ ← the kinds.Comma
      if_false ← target
      gives (terminators.Branch condition if_true if_false))

-- ---- switch

abbrev pub WORDS_OF_BITS : List ℕ
WORDS_OF_BITS = number kinds.True ∷ number kinds.False ∷ []

-- no number is of type ptr
abbrev pub case_classes : Reg → List ℕ
case_classes (Int w) = number kinds.Number ∷ WORDS_OF_BITS
case_classes Ptr = WORDS_OF_BITS

abbrev pub matched : ℕ → ℕ → Matched
matched width bits = record { width = width; bits = bits }

abbrev pub matched_number : Reg → Tok → Option Matched
matched_number (Int w) t = option_map (matched w) (literal w t.text)
matched_number Ptr t = None

abbrev pub matched_by : TokenKind → Reg → Tok → Option Matched
matched_by kinds.Number r t = matched_number r t
matched_by kinds.True r t = Some (matched 1 1)
matched_by kinds.False r t = Some (matched 1 0)
matched_by h r t = None

abbrev pub matched_of : Reg → Tok → Option Matched
matched_of r t = matched_by t.kind r t

abbrev pub number_matched : Reg → Tok → Result Matched TokenFault
number_matched (Int w) t = in_range (matched_number (Int w) t)
number_matched Ptr t = Err Syntax

-- Number / true / false
abbrev pub constant : Reg → Form Tok Matched
constant r = token (is_valued tokens refusal (case_classes r) (matched_of r))

-- Number / true / false , label Local
unfoldable pub case_of : Reg → Form Tok Case
case_of r = do
  m ← constant r
  _ ← the kinds.Comma
  to ← target
  gives (record { reg = r; width = m.width; bits = m.bits; target = to })

-- reg (Number / true / false) , label Local
unfoldable pub case : Form Tok Case
case = do
  r ← reg
  case_of r

-- ] where a type may stand
abbrev pub end_of_cases : Form Tok (Unit {0})
end_of_cases = token (is_class tokens type_refusal (number kinds.CloseBracket))

-- iN operand , label Local [ {case} ]
unfoldable pub switching : Form Tok Typed → Form Tok Terminator
switching shape = do
  w ← integer
  value ← operand shape (Int w)
  _ ← the kinds.Comma
  default ← target
  _ ← the kinds.OpenBracket
  cases ← Star case
  _ ← end_of_cases
  gives (terminators.Switch w value default cases)

-- ---- any terminator, with the line of its first token

abbrev pub ENDS : List ℕ
ENDS = number kinds.Ret ∷ number kinds.Br ∷ number kinds.Switch ∷ number kinds.Unreachable ∷ []

abbrev pub end_by : TokenKind → End
end_by kinds.Br = end.Br
end_by kinds.Switch = end.Switch
end_by kinds.Unreachable = end.Unreachable
end_by h = end.Ret

abbrev pub ending_of : Tok → Ending
ending_of t = record { end = end_by t.kind; line = t.line }

abbrev pub behind_end : Form Tok Typed → End → Form Tok Terminator
behind_end shape end.Ret = returning shape
behind_end shape end.Br = branching shape
behind_end shape end.Switch = switching shape
behind_end shape end.Unreachable = gives terminators.Unreachable

unfoldable pub terminator : Form Tok Typed → Form Tok Ended
terminator shape = do
  e ← one_of ENDS ending_of
  t ← behind_end shape e.end
  _ ← attachments
  gives (record { terminator = t; line = e.line })
