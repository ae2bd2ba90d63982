-- The readers of terminators read them.
use Rattle.std.proofs.Common.{◌≡◌, ℕ, Bool, true, false, cond, Option, Some, None, option_map, List, [], ◌∷◌, refl, sym, ap}
use Rattle.std.proofs.lemmas.Bool.{false≢true}
use Rattle.std.specs.Prelude.{codes}
use Rattle.ir_lex.specs.Bytes.{has}
use Rattle.ir_lex.specs.declared.token_kind.TokenKind.{TokenKind}
use Rattle.ir_lex.specs.declared.token_kind.TokenKind.TheVariants as kinds
use Rattle.ir_lex.specs.declared.token.TokenForm.TheVariants as forms
use Rattle.ir_lex.specs.TokenKinds.{number, kind_of, word_kind, listed_kind, words_3, words_4}
use Rattle.ir_lex.specs.Lexing.{is_bad}
use Rattle.ir_lex.specs.Quotes.{is_zero_name}
use Rattle.ir_lex.specs.Rows.{best_fit, rest_fit, label_len, number_len, word_len, name_len, meta_len, dots_len, other_len, string_len}
use Rattle.ir_lex.specs.Tok.{Tok}
use Rattle.ir_tree.specs.declared.operand.Reg.{Reg}
use Rattle.ir_tree.specs.declared.operand.Reg.TheVariants.{Int, Ptr}
use Rattle.ir_parse_parts.specs.Alphabet.{contains}
use Rattle.ir_parse_parts.specs.Forms.{Star}
use Rattle.ir_parse_parts.specs.Rules.{Rule, Opens, IsWithin, is_class}
use Rattle.ir_parse_parts.proofs.Rules as rules
use Rattle.ir_parse_parts.specs.Classes.{tokens, refusal, NUMERALS, IsReal, one_of}
use Rattle.ir_parse_operands.specs.declared.terminators.End.{End}
use Rattle.ir_parse_operands.specs.declared.terminators.End.TheVariants as end
use Rattle.ir_parse_parts.specs.Literals.{literal}
use Rattle.ir_parse_parts.specs.Operands.{INTEGER, REG, RESULT, type_refusal, reg, reg_of}
use Rattle.ir_parse_operands.specs.Terminators.{WORDS_OF_BITS, ENDS, case_classes, matched, matched_by, matched_of, ending_of, returned, returning, target, branching, constant, case_of, case, end_of_cases, switching, behind_end, terminator}
use Rattle.ir_parse_operands.specs.TerminatorsAt.{LABEL, returned_at, returning_at, target_at, branching_at, constant_at, case_of_at, case_at, cases_at, end_of_cases_at, switching_at, behind_end_at, terminator_at}
use Rattle.ir_parse_parts.proofs.Nodes.{attachments_rule}
use Rattle.ir_parse_parts.proofs.OperandRules.{type_not_number, type_not_limit, zero_below, reg_rule, integer_rule, bit_rule, result_rule, local_rule}
use Rattle.ir_parse_operands.specs.ShapeForms.{any_shape, memory_shape}
use Rattle.ir_parse_parts.proofs.Singles.{sample, mark, word, not_number, not_limit, one_rule, comma_rule, open_bracket_rule, close_bracket_real}
use Rattle.ir_parse_operands.proofs.ValueRules.{OPERAND, operand_rule}
use Rattle.ir_parse_parts.proofs.Words.{zero_real, label_rule}

pub returned_rule : (r : Option Reg) → Rule tokens (returned memory_shape r) (returned any_shape r) (returned_at r) OPERAND [] true
returned_rule None = rules.wider tokens _ _ (rules.nothing tokens _) refl refl
returned_rule (Some r) = rules.wider tokens _ _ (rules.seq tokens (operand_rule r) (λ _. rules.nothing tokens _) refl) refl refl

pub returning_rule : Rule tokens (returning memory_shape) (returning any_shape) returning_at RESULT [] false
unfolding returning returning_at
returning_rule = rules.seq tokens result_rule returned_rule refl

pub target_rule : Rule tokens target target target_at LABEL [] false
unfolding target target_at
target_rule = rules.seq tokens label_rule (λ _. local_rule) refl

pub branching_rule : Rule tokens (branching memory_shape) (branching any_shape) branching_at (number kinds.LabelType ∷ INTEGER) [] false
unfolding branching branching_at
branching_rule = rules.alt tokens LABEL (rules.seq tokens target_rule (λ _. rules.nothing tokens _) refl)
    (rules.seq tokens bit_rule
    (λ w. rules.seq tokens (operand_rule (Int w)) (λ _. rules.seq tokens comma_rule (λ _. rules.seq tokens target_rule (λ _. rules.seq tokens comma_rule (λ _. rules.seq tokens target_rule (λ _. rules.nothing tokens _) refl) refl) refl) refl) refl)
    refl)
    refl refl

-- ---- switch

abbrev zero : Tok
zero = sample forms.Number kinds.Number (codes "0")

true_real : IsReal (word kinds.True (codes "true"))
unfolding best_fit rest_fit label_len number_len word_len name_len meta_len dots_len other_len string_len has is_bad is_zero_name kind_of word_kind listed_kind words_4
true_real = record { behind = []; some = refl; fits = refl; good = refl; class = refl }

zero_matches : (w : ℕ) → matched_of (Int w) zero ≡ Some (matched w 0)
unfolding literal
zero_matches w = ap (λ (b : Bool). option_map (matched w) (cond b (Some 0) None)) (zero_below w)

constant_within : (r : Reg) (h : TokenKind) (t : Tok) → t.kind ≡ h → contains (case_classes r) (number h) ≡ true → matched_by h r t ≡ None → IsWithin tokens (case_classes r) (matched_of r) t
constant_within (Int w) kinds.Number t e p q = record { writes = ap (λ (x : TokenKind). contains NUMERALS (number x)) e; other = zero; means = matched w 0; alike = sym (ap number e); has = zero_matches w; real = zero_real }
constant_within Ptr kinds.Number t e p q = absurd cc
constant_within r kinds.True t e p q = absurd cc
constant_within r kinds.False t e p q = absurd cc
constant_within (Int w) h t e p q = absurd (false≢true p)
constant_within Ptr h t e p q = absurd (false≢true p)

pub constant_rule : (r : Reg) → Rule tokens (constant r) (constant r) (constant_at r) (number kinds.Number ∷ WORDS_OF_BITS) [] false
constant_rule (Int w) = rules.valued_rule tokens refusal not_number not_limit (case_classes (Int w)) (matched_of (Int w)) (λ t p q. constant_within (Int w) t.kind t refl p q) (word kinds.True (codes "true")) (matched 1 1) refl refl true_real
constant_rule Ptr = rules.broader tokens _ _ (rules.valued_rule tokens refusal not_number not_limit (case_classes Ptr) (matched_of Ptr) (λ t p q. constant_within Ptr t.kind t refl p q) (word kinds.True (codes "true")) (matched 1 1) refl refl true_real) refl refl

pub case_of_rule : (r : Reg) → Rule tokens (case_of r) (case_of r) (case_of_at r) (number kinds.Number ∷ WORDS_OF_BITS) [] false
unfolding case_of case_of_at
case_of_rule r = rules.seq tokens (constant_rule r) (λ _. rules.seq tokens comma_rule (λ _. rules.seq tokens target_rule (λ _. rules.nothing tokens _) refl) refl) refl

pub case_rule : Rule tokens case case case_at REG [] false
unfolding case case_at
case_rule = rules.seq tokens reg_rule case_of_rule refl

pub case_opens : Opens tokens REG case
unfolding case
case_opens = rules.opens_seq tokens REG reg (rules.opens_among tokens type_refusal REG reg_of) case_of_rule

pub cases_rule : Rule tokens (Star case) (Star case) cases_at REG REG true
cases_rule = rules.star tokens REG case_rule case_opens refl refl

pub end_of_cases_rule : Rule tokens end_of_cases end_of_cases end_of_cases_at (number kinds.CloseBracket ∷ []) [] false
unfolding is_class
end_of_cases_rule = rules.class_rule tokens type_refusal type_not_number type_not_limit (number kinds.CloseBracket) (mark kinds.CloseBracket (codes "]")) refl close_bracket_real

pub switching_rule : Rule tokens (switching memory_shape) (switching any_shape) switching_at INTEGER [] false
unfolding switching switching_at
switching_rule = rules.seq tokens integer_rule
    (λ w. rules.seq tokens (operand_rule (Int w)) (λ _. rules.seq tokens comma_rule (λ _. rules.seq tokens target_rule (λ _. rules.seq tokens open_bracket_rule (λ _. rules.seq tokens cases_rule (λ _. rules.seq tokens end_of_cases_rule (λ _. rules.nothing tokens _) refl) refl) refl) refl) refl) refl)
    refl

-- ---- any terminator

abbrev pub BEHIND : List ℕ
BEHIND = number kinds.Void ∷ number kinds.LabelType ∷ REG

pub behind_end_rule : (e : End) → Rule tokens (behind_end memory_shape e) (behind_end any_shape e) (behind_end_at e) BEHIND [] true
behind_end_rule end.Ret = rules.wider tokens _ _ returning_rule refl refl
behind_end_rule end.Br = rules.wider tokens _ _ branching_rule refl refl
behind_end_rule end.Switch = rules.wider tokens _ _ switching_rule refl refl
behind_end_rule end.Unreachable = rules.wider tokens _ _ (rules.nothing tokens _) refl refl

ret_real : IsReal (word kinds.Ret (codes "ret"))
unfolding best_fit rest_fit label_len number_len word_len name_len meta_len dots_len other_len string_len has is_bad is_zero_name kind_of word_kind listed_kind words_3
ret_real = record { behind = []; some = refl; fits = refl; good = refl; class = refl }

-- a terminator delimits itself, but for its attachments
pub terminator_rule : Rule tokens (terminator memory_shape) (terminator any_shape) terminator_at ENDS (number kinds.OpenParen ∷ number kinds.Comma ∷ []) false
unfolding terminator terminator_at
terminator_rule = rules.seq tokens (one_rule ENDS ending_of (word kinds.Ret (codes "ret")) refl ret_real) (λ e. rules.seq tokens (behind_end_rule e.end) (λ _. rules.seq tokens attachments_rule (λ _. rules.nothing tokens _) refl) refl) refl

pub terminator_opens : Opens tokens ENDS (terminator any_shape)
unfolding terminator
terminator_opens = rules.opens_seq tokens ENDS (one_of ENDS ending_of) (rules.opens_among tokens refusal ENDS ending_of) (λ e. rules.seq tokens (behind_end_rule e.end) (λ t. rules.seq tokens attachments_rule (λ _. rules.nothing tokens (record { terminator = t; line = e.line })) refl) refl)
