-- What the readers of terminators give.
use Rattle.std.specs.Prelude.{ℕ, Option, Some, None, List, [], ◌∷◌}
use Rattle.ir_lex.specs.declared.token_kind.TokenKind.TheVariants as kinds
use Rattle.ir_lex.specs.TokenKinds.{number}
use Rattle.ir_lex.specs.Tok.{Tok}
use Rattle.ir_tree.specs.declared.operand.Reg.{Reg}
use Rattle.ir_tree.specs.declared.operand.Reg.TheVariants.{Int}
use Rattle.ir_parse_parts.specs.Alphabet.{among}
use Rattle.ir_parse_parts.specs.Readers.{Reader, ◌>>=◌, done, pick, token_at, star_at}
use Rattle.ir_parse_parts.specs.Rules.{is_class, is_valued}
use Rattle.ir_parse_parts.specs.Classes.{tokens, refusal, the_at, one_of_at}
use Rattle.ir_parse_parts.specs.declared.raw.Case.{Case}
use Rattle.ir_parse_parts.specs.declared.raw.Operand.{Operand}
use Rattle.ir_parse_parts.specs.declared.raw.Terminator.{Terminator}
use Rattle.ir_parse_parts.specs.declared.raw.Terminator.TheVariants as terminators
use Rattle.ir_parse_operands.specs.declared.terminators.End.{End}
use Rattle.ir_parse_operands.specs.declared.terminators.End.TheVariants as end
use Rattle.ir_parse_operands.specs.declared.terminators.Ended.{Ended}
use Rattle.ir_parse_operands.specs.declared.terminators.Matched.{Matched}
use Rattle.ir_parse_parts.specs.MetadataAt.{attachments_at}
use Rattle.ir_parse_parts.specs.Operands.{REG, type_refusal}
use Rattle.ir_parse_parts.specs.OperandsAt.{reg_at, integer_at, bit_at, result_at, local_at}
use Rattle.ir_parse_operands.specs.ValuesAt.{operand_at}
use Rattle.ir_parse_operands.specs.Terminators.{case_classes, matched_of, ENDS, ending_of}

abbrev pub LABEL : List ℕ
LABEL = number kinds.LabelType ∷ []

abbrev pub returned_at : Option Reg → Reader Tok Terminator
returned_at None = done (terminators.Return None)
returned_at (Some r) = do
  v ← operand_at r
  done (terminators.Return (Some (record { reg = r; operand = v })))

unfoldable pub returning_at : Reader Tok Terminator
returning_at = do
  r ← result_at
  returned_at r

unfoldable pub target_at : Reader Tok Tok
target_at = do
  _ ← the_at kinds.LabelType
  local_at

-- , label Local
unfoldable pub branch_at : Reader Tok Tok
branch_at = do
  _ ← the_at kinds.Comma
  target_at

-- behind the condition
abbrev pub branches_at : Operand → Reader Tok Terminator
branches_at condition = do
  _ ← the_at kinds.Comma
  if_true ← target_at
  _ ← the_at kinds.Comma
  if_false ← target_at
  done (terminators.Branch condition if_true if_false)

-- where two blocks may come next
abbrev pub choosing_at : Reader Tok Terminator
choosing_at = do
  w ← bit_at
  condition ← operand_at (Int w)
  branches_at condition

unfoldable pub branching_at : Reader Tok Terminator
branching_at = pick (among tokens LABEL)
    (do
      to ← target_at
      done (terminators.Jump to))
    choosing_at

abbrev pub constant_at : Reg → Reader Tok Matched
constant_at r = token_at (is_valued tokens refusal (case_classes r) (matched_of r))

unfoldable pub case_of_at : Reg → Reader Tok Case
case_of_at r = do
  m ← constant_at r
  _ ← the_at kinds.Comma
  to ← target_at
  done (record { reg = r; width = m.width; bits = m.bits; target = to })

unfoldable pub case_at : Reader Tok Case
case_at = do
  r ← reg_at
  case_of_at r

abbrev pub cases_at : Reader Tok (List Case)
cases_at = star_at (among tokens REG) case_at

abbrev pub end_of_cases_at : Reader Tok (Unit {0})
end_of_cases_at = token_at (is_class tokens type_refusal (number kinds.CloseBracket))

-- [ cases ]
unfoldable pub bracketed_cases_at : Reader Tok (List Case)
bracketed_cases_at = do
  _ ← the_at kinds.OpenBracket
  cases ← cases_at
  _ ← end_of_cases_at
  done cases

-- behind the target of what no case has
abbrev pub switched_at : ℕ → Operand → Tok → Reader Tok Terminator
switched_at w value default = do
  _ ← the_at kinds.OpenBracket
  cases ← cases_at
  _ ← end_of_cases_at
  done (terminators.Switch w value default cases)

-- behind the value
abbrev pub switches_at : ℕ → Operand → Reader Tok Terminator
switches_at w value = do
  _ ← the_at kinds.Comma
  default ← target_at
  switched_at w value default

unfoldable pub switching_at : Reader Tok Terminator
switching_at = do
  w ← integer_at
  value ← operand_at (Int w)
  switches_at w value

abbrev pub behind_end_at : End → Reader Tok Terminator
behind_end_at end.Ret = returning_at
behind_end_at end.Br = branching_at
behind_end_at end.Switch = switching_at
behind_end_at end.Unreachable = done terminators.Unreachable

unfoldable pub terminator_at : Reader Tok Ended
terminator_at = do
  e ← one_of_at ENDS ending_of
  t ← behind_end_at e.end
  _ ← attachments_at
  done (record { terminator = t; line = e.line })
