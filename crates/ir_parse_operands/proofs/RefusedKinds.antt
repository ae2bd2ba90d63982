-- Kinds of tokens that begin neither a case nor a terminator.
use Rattle.std.proofs.Common.{◌≡◌, Bool, true, false, ◌||◌, nat_eq, cond, ◌∷◌, Ok, Err, refl, ap}
use Rattle.ir_lex.specs.declared.token_kind.TokenKind.{TokenKind}
use Rattle.ir_lex.specs.declared.token_kind.TokenKind.TheVariants as kinds
use Rattle.ir_lex.specs.TokenKinds.{number}
use Rattle.ir_lex.specs.Tok.{Tok}
use Rattle.ir_tree.specs.declared.operand.Reg.{Reg}
use Rattle.ir_tree.specs.declared.operand.Reg.TheVariants.{Int, Ptr}
use Rattle.ir_parse_parts.specs.Alphabet.{contains}
use Rattle.ir_parse_parts.specs.Classes.{tokens, refusal}
use Rattle.ir_parse_parts.specs.Rules.{in_range, is_among, is_valued}
use Rattle.ir_parse_operands.specs.Terminators.{ENDS, WORDS_OF_BITS, case_classes, ending_of, matched_of}

no_constant : (h : TokenKind) → (h ≡ kinds.Number → ⊥) → (h ≡ kinds.True → ⊥) → (h ≡ kinds.False → ⊥) → contains (number kinds.Number ∷ WORDS_OF_BITS) (number h) ≡ false
no_constant kinds.Number n t f = absurd (n refl)
no_constant kinds.True n t f = absurd (t refl)
no_constant kinds.False n t f = absurd (f refl)
no_constant h n t f = refl

neither : (first others : Bool) → first || others ≡ false → others ≡ false
neither true others e = absurd cc
neither false others e = e

pub not_case : (r : Reg) (h : TokenKind) → (h ≡ kinds.Number → ⊥) → (h ≡ kinds.True → ⊥) → (h ≡ kinds.False → ⊥) → contains (case_classes r) (number h) ≡ false
not_case (Int w) h n t f = no_constant h n t f
not_case Ptr h n t f = neither (nat_eq (number h) (number kinds.Number)) (contains WORDS_OF_BITS (number h)) (no_constant h n t f)

pub no_case : (r : Reg) (t : Tok) → contains (case_classes r) (number t.kind) ≡ false → is_valued tokens refusal (case_classes r) (matched_of r) t ≡ Err (refusal (number t.kind))
unfolding is_valued
no_case r t e = ap (λ (b : Bool). cond b (in_range (matched_of r t)) (Err (refusal (number t.kind)))) e

pub not_end : (h : TokenKind) → (h ≡ kinds.Ret → ⊥) → (h ≡ kinds.Br → ⊥) → (h ≡ kinds.Switch → ⊥) → (h ≡ kinds.Unreachable → ⊥) → contains ENDS (number h) ≡ false
not_end kinds.Ret r b s u = absurd (r refl)
not_end kinds.Br r b s u = absurd (b refl)
not_end kinds.Switch r b s u = absurd (s refl)
not_end kinds.Unreachable r b s u = absurd (u refl)
not_end h r b s u = refl

pub no_end : (t : Tok) → contains ENDS (number t.kind) ≡ false → is_among tokens refusal ENDS ending_of t ≡ Err (refusal (number t.kind))
unfolding is_among
no_end t e = ap (λ (b : Bool). cond b (Ok (ending_of t)) (Err (refusal (number t.kind)))) e
