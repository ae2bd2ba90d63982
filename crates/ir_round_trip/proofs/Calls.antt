-- Printed calls are read (LangRef, "call Instruction").
use Rattle.std.proofs.Common.{◌≡◌, ℕ, Bool, true, false, cond, Option, Some, None, Ok, Err, List, [], ◌∷◌, ◌++◌, refl, ap, inl, inr, ◌⊎◌}
use Rattle.std.specs.List.{AllByRecursion as Each}
use Rattle.ir_parse_bodies.specs.Calls.{conventions, types, argument_behind, argument, further_argument, some_arguments, any_arguments, called_value, marker_refusal, unmarked_value, callee, called, calling}
use Rattle.ir_lex.specs.TokenKinds.{number, kind_of, mark_kind}
use Rattle.ir_lex.specs.Pieces.{Piece}
use Rattle.ir_lex.specs.Tok.{Tok}
use Rattle.ir_lex.specs.declared.token_kind.TokenKind.TheVariants as kinds
use Rattle.ir_lex.specs.declared.token.TokenForm.TheVariants as forms
use Rattle.ir_print.specs.Operands as printed
use Rattle.ir_print.specs.Operands.{further_typed, all_typed}
use Rattle.ir_print.specs.Tokens.{tight, space, mark}
use Rattle.ir_print.specs.Types.{result}
use Rattle.ir_parse_heads.specs.Attributes.{parameter_attributes, call_attributes}
use Rattle.ir_parse_parts.specs.Classes.{tokens, refusal}
use Rattle.ir_parse_parts.specs.Operands.{type_refusal, classes_of, operand_of, simple}
use Rattle.ir_parse_operands.specs.ShapeForms.{memory_shape}
use Rattle.ir_parse_operands.specs.Values as values
use Rattle.ir_parse_parts.specs.declared.raw.Operand as raw_operand
use Rattle.ir_tree.specs.declared.instr.Instr.TheVariants.{Call}
use Rattle.ir_tree.specs.declared.operand.Argument.{Argument}
use Rattle.ir_tree.specs.declared.operand.Operand.{Operand}
use Rattle.ir_tree.specs.declared.operand.Reg.{Reg}
use Rattle.ir_tree.specs.declared.operand.Reg.TheVariants.{Ptr}
use Rattle.ir_parse_parts.specs.Alphabet.{contains}
use Rattle.ir_parse_parts.specs.declared.fault.TokenFault.{TokenFault}
use Rattle.ir_parse_parts.specs.Forms as form
use Rattle.ir_parse_parts.specs.Forms.{Form, Star, token, optional}
use Rattle.ir_parse_parts.specs.Rules.{in_range, is_valued}
use Rattle.ir_round_trip.specs.Printed.{IsSomeWith, IsInstruction}
use Rattle.ir_round_trip.specs.Readable.{CallReadable}
use Rattle.ir_round_trip.specs.PartsPrinted.{Paired, IsOperand, IsArgument}
use Rattle.ir_round_trip.specs.PartsReadable.{OperandReadable, ArgumentReadable}
use Rattle.ir_round_trip.specs.Reads.{Parses, Any}
use Rattle.ir_round_trip.proofs.Composed.{then, next, last, nothing, left, right, no_more, one_more}
use Rattle.ir_round_trip.proofs.PartsInstructions.{no_attachments}
use Rattle.ir_round_trip.proofs.PartsOperands.{operand_read}
use Rattle.ir_round_trip.proofs.Tokens.{single, by_class}
use Rattle.ir_round_trip.proofs.Types.{register_read, result_read}
use Rattle.ir_round_trip.proofs.Words.{comma_read, open_paren_read, close_paren_read}

-- ---- what isn't printed

no_conventions : Parses conventions Any []
unfolding conventions
no_conventions = last (no_more {P = Any} tt) (λ all u. nothing tt)

no_types : Parses (optional types) (λ o. o ≡ None) []
no_types = right _ (nothing refl)

no_attributes : Parses parameter_attributes Any []
unfolding parameter_attributes
no_attributes = last (no_more {P = Any} tt) (λ all u. nothing tt)

no_call_attributes : Parses call_attributes Any []
unfolding call_attributes
no_call_attributes = last (no_more {P = Any} tt) (λ all u. nothing tt)

-- ---- arguments

argument_read : (blank : List ℕ) (a : Argument) → ArgumentReadable a → Parses (argument memory_shape) (IsArgument a) (printed.typed blank a.reg a.operand)
unfolding argument argument_behind
argument_read blank a h =
    next _ (register_read blank a.reg h.0) (then no_attributes (λ b u. last (operand_read space a.reg a.operand h.1) (λ v p. nothing (refl, p))))

further_read : (as' : List Argument) → Each ArgumentReadable as' → Parses (Star (further_argument memory_shape)) (Paired IsArgument as') (further_typed as')
unfolding further_argument
further_read [] h = no_more tt
further_read (a ∷ as') h = one_more (then comma_read (λ b u. argument_read space a h.0)) (further_read as' h.1) (λ x xs p q. (p, q))

arguments_read : (as' : List Argument) → Each ArgumentReadable as' → Parses (any_arguments memory_shape) (Paired IsArgument as') (all_typed as' ++ mark tight 41)
unfolding any_arguments some_arguments kind_of mark_kind
arguments_read [] h = right _ (last (single tight forms.Other 41 [] (by_class type_refusal kinds.CloseParen forms.Other (41 ∷ []) refl)) (λ b v. nothing tt))
arguments_read (a ∷ as') h =
    left _ (then (then (argument_read tight a h.0) (λ x q. last (further_read as' h.1) (λ xs r. nothing {P = Paired IsArgument (a ∷ as')} (q, r)))) (λ all k. last (close_paren_read tight) (λ b v. nothing k)))

-- ---- what is called

-- a token that is taken is taken whatever is said of those that aren't
module _ {A : Type 0} (refuse other : ℕ → TokenFault) (classes : List ℕ) (value : Tok → Option A) where
  taken_alike : (t : Tok) (a : A) → is_valued tokens refuse classes value t ≡ Ok a → is_valued tokens other classes value t ≡ Ok a
  unfolding is_valued
  taken_alike t a e = by_test (contains classes (number t.kind)) e
    where
      by_test : (b : Bool) → cond b (in_range (value t)) (Err (refuse (number t.kind))) ≡ Ok a → cond b (in_range (value t)) (Err (other (number t.kind))) ≡ Ok a
      by_test true e = e
      by_test false e = absurd cc

  token_alike : (ts : List Tok) (a : A) → token (is_valued tokens refuse classes value) ts a → token (is_valued tokens other classes value) ts a
  token_alike [] a h = h
  token_alike (t ∷ []) a h = taken_alike t a h
  token_alike (t ∷ u ∷ ts) a h = h

-- another form for the second of two
second : {A : Type 0} (g h k : Form Tok A) {P : A → Type 0} {ps : List Piece} → ((ts : List Tok) (a : A) → h ts a → k ts a) → Parses (form.either g h) P ps → Parses (form.either g k) P ps
unfolding form.either
second {A} g h k f r = record { value = λ behind line. let a = r.value behind line in (a.0, by_side a.1, a.2) }
  where
    by_side : {ts : List Tok} {a : A} → g ts a ⊎ h ts a → g ts a ⊎ k ts a
    by_side (inl x) = inl x
    by_side {ts} {a} (inr y) = inr (f ts a y)

module _ (x : Operand) (readable : OperandReadable Ptr x) where
  value_read : Parses (called_value memory_shape) (IsSomeWith (IsOperand x)) (printed.operand space x)
  unfolding called_value
  value_read = last (operand_read space Ptr x readable) (λ v p. nothing (v, refl, p))

  plain_read : Parses (form.either (values.address memory_shape) (simple Ptr)) (IsOperand x) (printed.operand space x)
  unfolding values.operand
  plain_read = operand_read space Ptr x readable

  unmarked_read : Parses (unmarked_value memory_shape) (IsSomeWith (IsOperand x)) (printed.operand space x)
  unfolding unmarked_value
  unmarked_read = last (second _ _ _ (token_alike refusal marker_refusal (classes_of Ptr) (operand_of Ptr)) plain_read) (λ v p. nothing (v, refl, p))

  callee_read : (named : Bool) (r : Option Reg) → Parses (callee memory_shape named r) (IsSomeWith (IsOperand x)) (printed.operand space x)
  callee_read named (Some r) = value_read
  callee_read true None = unmarked_read
  callee_read false None = right _ value_read

-- ---- calls

pub calling_read : (named : Bool) (r : Option Reg) (x : Operand) (as' : List Argument) → CallReadable r x as'
    → Parses (calling memory_shape named) (IsSomeWith (IsInstruction (Call r x as'))) (result r ++ (printed.operand space x ++ (mark tight 40 ++ (all_typed as' ++ mark tight 41))))
unfolding calling
calling_read named r x as' h =
    then no_conventions (λ a u. next _ (result_read r h.0) (next _ no_types (then (callee_read x h.1 named r) (λ f p. then (open_paren_read tight) (λ b v.
    last (arguments_read as' h.2) (λ all q. then no_call_attributes (λ c w. then no_attachments (λ d y. nothing (_, ap (λ (o : Option raw_operand.Operand). called r o all) p.1, (refl, p.2, q))))))))))
