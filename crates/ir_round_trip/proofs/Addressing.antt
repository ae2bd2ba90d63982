-- What stands behind the words `alloca` and `getelementptr` is read (LangRef, "alloca Instruction", "getelementptr
-- Instruction").
use Rattle.std.proofs.Common.{◌≡◌, ℕ, Bool, true, false, nat_eq, Some, List, [], ◌∷◌, ◌++◌, codes, refl, ap, ◌∙◌}
use Rattle.std.specs.List.{fold, AllByRecursion as Each}
use Rattle.ir_lex.specs.TokenKinds.{number, kind_of, word_kind, listed_kind, words_8}
use Rattle.ir_lex.specs.declared.token_kind.TokenKind.{TokenKind}
use Rattle.ir_lex.specs.declared.token_kind.TokenKind.TheVariants as kinds
use Rattle.ir_lex.specs.declared.token.TokenForm.TheVariants as forms
use Rattle.ir_print.specs.Instructions as printed
use Rattle.ir_print.specs.Instructions.{pointer_to}
use Rattle.ir_print.specs.Operands.{further_typed}
use Rattle.ir_print.specs.Tokens.{space, word, comma, optional}
use Rattle.ir_print.specs.Types.{shape}
use Rattle.ir_parse_operands.specs.Addressing.{one_slot, slots_behind, reserving, indexing, further, keep, indices, addressing, slots_fit}
use Rattle.ir_parse_parts.specs.Ahead.{STEPPING}
use Rattle.ir_parse_parts.specs.Classes.{refusal, one_of}
use Rattle.ir_parse_operands.specs.Adding.{anywhere}
use Rattle.ir_parse_operands.specs.ShapeForms.{memory_shape}
use Rattle.ir_parse_operands.specs.Values.{is_inbounds, or_inbounds, stepping}
use Rattle.ir_tree.specs.Formed.{IsAlignment}
use Rattle.ir_tree.specs.Forms.{Form}
use Rattle.ir_tree.specs.declared.instr.Instr.TheVariants.{Alloca, Address}
use Rattle.ir_tree.specs.declared.operand.Argument.{Argument}
use Rattle.ir_tree.specs.declared.operand.Operand.{Operand}
use Rattle.ir_tree.specs.declared.operand.Reg.TheVariants.{Ptr}
use Rattle.ir_parse_parts.specs.Chained.{Chain}
use Rattle.ir_round_trip.specs.PartsPrinted.{IsArgument, IsInstr}
use Rattle.ir_round_trip.specs.PartsReadable.{OperandReadable, ArgumentReadable}
use Rattle.ir_round_trip.specs.Reads.{Parses}
use Rattle.ir_round_trip.proofs.Composed.{then, next, last, nothing, left, right, no_more, one_more, chain_ends, chain_goes_on}
use Rattle.ir_round_trip.proofs.PartsInstructions.{aligned_read}
use Rattle.ir_round_trip.proofs.Kept.{Kept, kept_none, kept_more, kept}
use Rattle.ir_round_trip.proofs.PartsOperands.{operand_read, argument_read}
use Rattle.ir_round_trip.proofs.PartsShapes.{IsShape}
use Rattle.ir_round_trip.proofs.Tokens.{single, by_classes}
use Rattle.ir_round_trip.proofs.Types.{pointer_read}
use Rattle.ir_round_trip.proofs.Words.{comma_read}

-- ---- alloca

slot_read : (fits : ℕ → Bool) (n : ℕ) → IsAlignment n → Parses (slots_behind fits) (λ s. (s.count ≡ 1) × (s.align ≡ Some n)) (printed.aligned n)
unfolding slots_behind one_slot
slot_read fits n a = left _ (then comma_read (λ b u. left _ (last (aligned_read n a) (λ m e. nothing (refl, e)))))

pub alloca_read : (f : Form) (n : ℕ) → Parses memory_shape (IsShape f) (shape space f) → IsAlignment n → Parses (reserving slots_fit memory_shape) (IsInstr (Alloca f n)) (shape space f ++ printed.aligned n)
unfolding reserving
alloca_read f n s a = then s (λ typed p. last (slot_read (slots_fit typed.shape) n a) (λ slots q. nothing (p, q.0, q.1)))

-- ---- getelementptr

inbounds_read : Parses (one_of STEPPING is_inbounds) (λ b. b ≡ true) (word space (codes "inbounds"))
unfolding kind_of word_kind listed_kind words_8
inbounds_read = single space forms.Word _ _ (by_classes refusal STEPPING is_inbounds forms.Word (codes "inbounds") refl (λ t i. ap (λ (h : TokenKind). nat_eq (number h) (number kinds.Inbounds)) i.kind))

stepping_read : (b : Bool) → Parses stepping (λ x. x ≡ b) (optional (codes "inbounds") b)
unfolding stepping
stepping_read true = last {P = λ bs. bs ≡ true ∷ []} (one_more inbounds_read (no_more {P = λ bs. bs ≡ []} refl) (λ b bs e f. ap (λ (x : Bool). x ∷ bs) e ∙ ap (λ (xs : List Bool). true ∷ xs) f)) (λ bs e. nothing (ap (fold or_inbounds false) e))
stepping_read false = last (no_more {P = λ bs. bs ≡ []} refl) (λ bs e. nothing (ap (fold or_inbounds false) e))

indices_read : (is : List Argument) → Each ArgumentReadable is → Parses (Chain anywhere (further memory_shape) false) (Kept IsArgument is) (further_typed is)
unfolding further indexing
indices_read [] h = chain_ends anywhere (further memory_shape) false refl (kept_none IsArgument)
indices_read (a ∷ is) h = chain_goes_on anywhere (further memory_shape) false false (then comma_read (λ b u. right _ (last (argument_read space a h.0) (λ r p. nothing ((r, refl, p), refl))))) (indices_read is h.1) (λ o more p q. kept_more IsArgument p q)

pub address_read : (inbounds : Bool) (f : Form) (base : Operand) (is : List Argument) → Parses memory_shape (IsShape f) (shape space f) → OperandReadable Ptr base → Each ArgumentReadable is
    → Parses (addressing memory_shape) (IsInstr (Address inbounds f base is)) (optional (codes "inbounds") inbounds ++ (shape space f ++ (comma ++ (pointer_to base ++ further_typed is))))
unfolding addressing indices
address_read inbounds f base is s p h =
    next _ (stepping_read inbounds) (then s (λ typed q. then comma_read (λ b u. then (pointer_read space) (λ c v. then (operand_read space Ptr base p) (λ x k.
    last (last (indices_read is h) (λ all r. nothing (kept IsArgument keep (λ front a. refl) r))) (λ all r. nothing (refl, q, k, r)))))))
