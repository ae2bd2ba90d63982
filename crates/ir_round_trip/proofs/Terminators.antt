-- Printed terminators are read (LangRef, "Terminator Instructions").
use Rattle.std.proofs.Common.{◌≡◌, ℕ, true, Option, Some, None, option_map, List, [], ◌∷◌, ◌++◌, codes, refl, sym, ap, subst, ◌∙◌}
use Rattle.std.specs.List.{AllByRecursion as Each}
use Rattle.ir_lex.specs.TokenKinds.{number, kind_of, mark_kind, word_kind, listed_kind, words_2, words_3, words_6, words_11}
use Rattle.ir_lex.specs.Pieces.{Piece}
use Rattle.ir_lex.specs.declared.token_kind.TokenKind.{TokenKind}
use Rattle.ir_lex.specs.declared.token_kind.TokenKind.TheVariants as kinds
use Rattle.ir_lex.specs.declared.token.TokenForm.TheVariants as forms
use Rattle.ir_print.specs.Blocks as printed
use Rattle.ir_print.specs.Blocks.{decided}
use Rattle.ir_print.specs.Operands.{operand}
use Rattle.ir_print.specs.Tokens.{space, indent, word, mark, comma, width}
use Rattle.ir_parse_parts.specs.Classes.{refusal, one_of}
use Rattle.ir_parse_parts.specs.Literals.{literal}
use Rattle.ir_parse_parts.specs.Operands.{type_refusal}
use Rattle.ir_parse_operands.specs.ShapeForms.{memory_shape}
use Rattle.ir_parse_operands.specs.Terminators as read
use Rattle.ir_parse_operands.specs.Terminators.{ENDS, ending_of, end_by, behind_end, returned, returning, branching, case_classes, matched, matched_by, matched_of, case_of, case, end_of_cases, switching}
use Rattle.ir_parse_operands.specs.declared.terminators.End.{End}
use Rattle.ir_parse_operands.specs.declared.terminators.End.TheVariants as ends
use Rattle.ir_tree.specs.Formed.{IsWidth}
use Rattle.ir_tree.specs.declared.block.Case.{Case}
use Rattle.ir_tree.specs.declared.block.Terminator.{Terminator}
use Rattle.ir_tree.specs.declared.block.Terminator.TheVariants.{Return, Jump, Branch, Switch, Unreachable}
use Rattle.ir_tree.specs.declared.operand.Argument.{Argument}
use Rattle.ir_tree.specs.declared.operand.Operand.{Operand}
use Rattle.ir_tree.specs.declared.operand.Reg.{Reg}
use Rattle.ir_tree.specs.declared.operand.Reg.TheVariants.{Int, Ptr}
use Rattle.ir_parse_parts.specs.Alphabet.{contains}
use Rattle.ir_parse_parts.specs.Forms.{Star}
use Rattle.ir_round_trip.specs.PartsPrinted.{Paired, IsCase, IsTerminator}
use Rattle.ir_round_trip.specs.PartsReadable.{IsSmall, OperandReadable, CaseReadable, AnswerReadable, TerminatorReadable}
use Rattle.ir_round_trip.specs.Reads.{Parses, Any}
use Rattle.ir_round_trip.proofs.Composed.{then, next, last, nothing, regroup, left, right, no_more, one_more}
use Rattle.ir_round_trip.proofs.PartsConstants.{ReadsNumbers, number_read}
use Rattle.ir_round_trip.proofs.PartsInstructions.{no_attachments}
use Rattle.ir_round_trip.proofs.PrintedNames.{target_read}
use Rattle.ir_round_trip.proofs.PartsOperands.{operand_read}
use Rattle.ir_round_trip.proofs.Tokens.{single, by_class, by_classes}
use Rattle.ir_round_trip.proofs.Types.{result_read, integer_read, bit_read, register_read}
use Rattle.ir_round_trip.proofs.Words.{comma_read, open_bracket_read}

-- ---- return and branches

answer_read : (a : Option Argument) → AnswerReadable a → Parses (returning memory_shape) (IsTerminator (Return a)) (printed.answer a)
unfolding returning
answer_read None h = last (result_read None tt) (λ r e. subst (λ x. Parses (returned memory_shape x) (IsTerminator (Return None)) []) (sym e) (nothing tt))
answer_read (Some a) h = next _ (result_read (Some a.reg) h.0) (last (operand_read space a.reg a.operand h.1) (λ v p. nothing (refl, p)))

jump_read : (n : ℕ) → IsSmall n → Parses (branching memory_shape) (IsTerminator (Jump n)) (printed.target n)
unfolding branching
jump_read n h = left _ (last (target_read n h) (λ t p. nothing p))

branch_read : (c : Operand) (if_true if_false : ℕ) → OperandReadable (Int 1) c → IsSmall if_true → IsSmall if_false → Parses (branching memory_shape) (IsTerminator (Branch c if_true if_false)) (width space 1 ++ (decided c if_true ++ (comma ++ printed.target if_false)))
unfolding branching
branch_read c if_true if_false p q r =
    right _ (next _ (bit_read space) (regroup (operand space c) _ _
    (then (operand_read space (Int 1) c p) (λ x h. then comma_read (λ a u. then (target_read if_true q) (λ t k. then comma_read (λ b v. last (target_read if_false r) (λ f l. nothing (h, k, l)))))))))

-- ---- switch

reads_cases : (reg : Reg) → ReadsNumbers reg (case_classes reg) (matched_of reg) matched
reads_cases reg = record {
  true_there = true_there reg;
  false_there = false_there reg;
  is_true = λ t e. ap (λ (g : TokenKind). matched_by g reg t) e;
  is_false = λ t e. ap (λ (g : TokenKind). matched_by g reg t) e;
  number_there = λ w e. subst (λ (g : Reg). contains (case_classes g) (number kinds.Number) ≡ true) (sym e) refl;
  is_number = λ w e t h. subst (λ (g : Reg). matched_of g t ≡ option_map (matched w) (literal w t.text)) (sym e) (ap (λ (g : TokenKind). matched_by g (Int w) t) h);
}
  where
    true_there : (reg : Reg) → contains (case_classes reg) (number kinds.True) ≡ true
    true_there (Int w) = refl
    true_there Ptr = refl

    false_there : (reg : Reg) → contains (case_classes reg) (number kinds.False) ≡ true
    false_there (Int w) = refl
    false_there Ptr = refl

case_read : (c : Case) → CaseReadable c → Parses case (IsCase c) (printed.switch_case c)
unfolding case case_of
case_read c h =
    next _ (register_read space c.reg h.reg) (then (number_read (reads_cases c.reg) {P = λ m. (m.width ≡ c.width) × (m.bits ≡ c.bits)} space c.width c.bits h.number (refl, refl)) (λ m p.
    then comma_read (λ a u. last (target_read c.target h.target) (λ to q. nothing (refl, p.0, p.1, q)))))

cases_read : (cs : List Case) → Each CaseReadable cs → Parses (Star case) (Paired IsCase cs) (printed.cases cs)
cases_read [] h = no_more tt
cases_read (c ∷ cs) h = one_more (case_read c h.0) (cases_read cs h.1) (λ a more p q. (p, q))

end_read : Parses end_of_cases Any (mark space 93)
unfolding kind_of mark_kind
end_read = single space forms.Other 93 [] (by_class type_refusal kinds.CloseBracket forms.Other (93 ∷ []) refl)

switch_read : (w : ℕ) (x : Operand) (default : ℕ) (cs : List Case) → IsWidth w → OperandReadable (Int w) x → IsSmall default → Each CaseReadable cs
    → Parses (switching memory_shape) (IsTerminator (Switch w x default cs)) (width space w ++ (decided x default ++ (mark space 91 ++ (printed.cases cs ++ mark space 93))))
unfolding switching
switch_read w x default cs r p q h =
    next _ (integer_read space w r) (regroup (operand space x) _ _ (then (operand_read space (Int w) x p) (λ v k. then comma_read (λ a u. then (target_read default q) (λ d l.
    then (open_bracket_read space) (λ b s. then (cases_read cs h) (λ all m. last end_read (λ c t. nothing (refl, k, l, m)))))))))

-- ---- terminators

ends_as : {e : End} (c : ℕ) (cs : List ℕ) (h : TokenKind) → kind_of forms.Word (c ∷ cs) [] ≡ h → contains ENDS (number h) ≡ true → end_by h ≡ e → Parses (one_of ENDS ending_of) (λ x. x.end ≡ e) (word indent (c ∷ cs))
ends_as c cs h is there means = single indent forms.Word c cs (by_classes refusal ENDS ending_of forms.Word (c ∷ cs) (ap (λ (g : TokenKind). contains ENDS (number g)) is ∙ there) (λ t i. ap end_by (i.kind ∙ is) ∙ means))

ret_read : Parses (one_of ENDS ending_of) (λ x. x.end ≡ ends.Ret) (word indent (codes "ret"))
unfolding kind_of word_kind listed_kind words_3
ret_read = ends_as _ _ kinds.Ret refl refl refl

br_read : Parses (one_of ENDS ending_of) (λ x. x.end ≡ ends.Br) (word indent (codes "br"))
unfolding kind_of word_kind listed_kind words_2
br_read = ends_as _ _ kinds.Br refl refl refl

switch_word_read : Parses (one_of ENDS ending_of) (λ x. x.end ≡ ends.Switch) (word indent (codes "switch"))
unfolding kind_of word_kind listed_kind words_6
switch_word_read = ends_as _ _ kinds.Switch refl refl refl

unreachable_read : Parses (one_of ENDS ending_of) (λ x. x.end ≡ ends.Unreachable) (word indent (codes "unreachable"))
unfolding kind_of word_kind listed_kind words_11
unreachable_read = ends_as _ _ kinds.Unreachable refl refl refl

ended : (t : Terminator) {e : End} {ps qs : List Piece} → Parses (one_of ENDS ending_of) (λ x. x.end ≡ e) ps → Parses (behind_end memory_shape e) (IsTerminator t) qs → Parses (read.terminator memory_shape) (λ x. IsTerminator t x.terminator) (ps ++ qs)
unfolding read.terminator
ended t {qs = qs} p q = then p (λ x e. last (subst (λ (y : End). Parses (behind_end memory_shape y) (IsTerminator t) qs) (sym e) q) (λ u h. then no_attachments (λ a v. nothing h)))

pub terminator_read : (t : Terminator) → TerminatorReadable t → Parses (read.terminator memory_shape) (λ x. IsTerminator t x.terminator) (printed.terminator t)
terminator_read (Return a) h = ended (Return a) ret_read (answer_read a h)
terminator_read (Jump n) h = ended (Jump n) br_read (jump_read n h)
terminator_read (Branch c if_true if_false) h = ended (Branch c if_true if_false) br_read (branch_read c if_true if_false h.0 h.1 h.2)
terminator_read (Switch w x default cs) h = ended (Switch w x default cs) switch_word_read (switch_read w x default cs h.0 h.1 h.2 h.3)
terminator_read Unreachable h = ended Unreachable unreachable_read (nothing tt)
