-- The readers of calls read them.
use Rattle.std.proofs.Common.{◌≡◌, ℕ, Bool, true, false, cond, nat_eq, Option, Some, None, List, [], ◌∷◌, ◌++◌, refl}
use Rattle.std.specs.Prelude.{codes}
use Rattle.ir_lex.specs.declared.token_kind.TokenKind.TheVariants as kinds
use Rattle.ir_lex.specs.TokenKinds.{number}
use Rattle.ir_lex.specs.Tok.{Tok}
use Rattle.ir_tree.specs.declared.operand.Reg.{Reg}
use Rattle.ir_tree.specs.declared.operand.Reg.TheVariants.{Ptr}
use Rattle.ir_parse_parts.specs.declared.fault.TokenFault.{TokenFault}
use Rattle.ir_parse_parts.specs.declared.fault.TokenFault.TheVariants.{Syntax, Number, Limit}
use Rattle.ir_parse_parts.specs.Rules.{Rule, Opens, is_class}
use Rattle.ir_parse_parts.proofs.Rules as rules
use Rattle.ir_parse_heads.specs.Attributes.{parameter_attribute}
use Rattle.ir_parse_heads.specs.AttributesAt.{PARAMETER, CALL}
use Rattle.ir_parse_parts.specs.Classes.{tokens, refusal, the, itself}
use Rattle.ir_parse_parts.specs.declared.raw.Operand.TheVariants as operands
use Rattle.ir_parse_heads.specs.FunctionHeads.{end_of_none}
use Rattle.ir_parse_heads.specs.FunctionHeadsAt.{end_of_none_at}
use Rattle.ir_parse_parts.specs.MetadataAt.{COMMA, PAREN}
use Rattle.ir_parse_parts.specs.Operands.{REG, RESULT, POINTER_OPERAND, type_refusal, reg_of, operand_of}
use Rattle.ir_parse_operands.specs.ShapeForms.{any_shape, memory_shape}
use Rattle.ir_parse_operands.specs.ValuesAt.{ADDRESS}
use Rattle.ir_parse_heads.proofs.AttributeRules.{parameter_attribute_rule, parameter_attribute_opens, parameter_attributes_rule, call_attributes_rule}
use Rattle.ir_parse_parts.proofs.Nodes.{attachments_rule}
use Rattle.ir_parse_parts.proofs.OperandRules.{type_not_number, type_not_limit, operand_within, reg_rule, result_rule}
use Rattle.ir_parse_parts.proofs.Singles.{word, mark, not_number, not_limit, the_opens, comma_rule, open_paren_rule, close_paren_rule, close_paren_real}
use Rattle.ir_parse_operands.proofs.ValueRules.{OPERAND, address_rule, operand_rule}
use Rattle.ir_parse_parts.proofs.Words.{int_32_real, null_real}
use Rattle.ir_parse_bodies.specs.Calls.{convention, conventions, written_type, further_type, some_types, listed_types, types, argument_behind, argument, further_argument, some_arguments, any_arguments, is_type, type_again, argument_of, further_of, each_further, some_of, arguments_of, arguments, called_value, marker, marker_refusal, unmarked, unmarked_value, callee, called, calling, tail_calling}
use Rattle.ir_parse_bodies.specs.CallsAt.{CONVENTION, CONVENTIONS, MARKER, convention_at, conventions_at, written_type_at, further_type_at, types_behind_at, some_types_at, listed_types_at, types_at, argument_behind_at, argument_at, further_argument_at, arguments_behind_at, some_arguments_at, any_arguments_at, type_again_at, argument_of_at, further_of_at, each_further_at, each_behind_at, some_of_at, arguments_of_at, arguments_at, called_value_at, marker_at, unmarked_at, unmarked_value_at, callee_at, calling_at, tail_calling_at}
use Rattle.ir_parse_bodies.proofs.Samples.{convention_word_rule, marker_name_rule, call_word_rule}
use Rattle.ir_parse_bodies.proofs.WrittenTypes.{writes}

-- ---- before the result

pub convention_rule : Rule tokens convention convention convention_at CONVENTIONS [] false
unfolding convention convention_at
convention_rule = rules.alt tokens CONVENTION convention_word_rule parameter_attribute_rule refl refl

convention_opens : Opens tokens CONVENTIONS convention
unfolding convention
convention_opens = rules.opens_either tokens CONVENTION PARAMETER (the kinds.CallingConvention) parameter_attribute (the_opens kinds.CallingConvention) parameter_attribute_opens

conventions_rule : Rule tokens conventions conventions conventions_at CONVENTIONS CONVENTIONS true
unfolding conventions conventions_at
conventions_rule = rules.seq tokens (rules.star tokens CONVENTIONS convention_rule convention_opens refl refl) (λ _. rules.nothing tokens tt) refl

-- ---- written types

written_type_rule : Rule tokens written_type written_type written_type_at REG [] false
written_type_rule = rules.among_rule tokens type_refusal type_not_number type_not_limit REG itself (word kinds.MemoryInteger (codes "i32")) refl int_32_real

pub further_type_rule : Rule tokens further_type further_type further_type_at COMMA [] false
unfolding further_type further_type_at
further_type_rule = rules.seq tokens comma_rule (λ _. written_type_rule) refl

further_type_opens : Opens tokens COMMA further_type
unfolding further_type
further_type_opens = rules.opens_seq tokens COMMA (the kinds.Comma) (the_opens kinds.Comma) (λ _. written_type_rule)

some_types_rule : Rule tokens some_types some_types some_types_at REG COMMA false
unfolding some_types some_types_at types_behind_at
some_types_rule = rules.seq tokens written_type_rule (λ first. rules.seq tokens (rules.star tokens COMMA further_type_rule further_type_opens refl refl) (λ _. rules.nothing tokens _) refl) refl

end_of_none_rule : Rule tokens end_of_none end_of_none end_of_none_at (number kinds.CloseParen ∷ []) [] false
unfolding is_class
end_of_none_rule = rules.class_rule tokens type_refusal type_not_number type_not_limit (number kinds.CloseParen) (mark kinds.CloseParen (codes ")")) refl close_paren_real

-- what stands in brackets begins with
abbrev LISTED : List ℕ
LISTED = number kinds.CloseParen ∷ REG

listed_types_rule : Rule tokens listed_types listed_types listed_types_at LISTED [] false
unfolding listed_types listed_types_at
listed_types_rule = rules.broader tokens LISTED [] (rules.alt tokens REG (rules.seq tokens some_types_rule (λ _. rules.seq tokens close_paren_rule (λ _. rules.nothing tokens _) refl) refl) (rules.seq tokens end_of_none_rule (λ _. rules.nothing tokens _) refl) refl refl) refl refl

types_rule : Rule tokens types types types_at PAREN [] false
unfolding types types_at
types_rule = rules.seq tokens open_paren_rule (λ _. listed_types_rule) refl

-- ---- arguments of any types

argument_behind_rule : (r : Reg) → Rule tokens (argument_behind memory_shape r) (argument_behind any_shape r) (argument_behind_at r) (PARAMETER ++ OPERAND) [] false
unfolding argument_behind argument_behind_at
argument_behind_rule r = rules.seq tokens parameter_attributes_rule (λ _. rules.seq tokens (operand_rule r) (λ _. rules.nothing tokens _) refl) refl

argument_rule : Rule tokens (argument memory_shape) (argument any_shape) argument_at REG [] false
unfolding argument argument_at
argument_rule = rules.seq tokens reg_rule argument_behind_rule refl

pub further_argument_rule : Rule tokens (further_argument memory_shape) (further_argument any_shape) further_argument_at COMMA [] false
unfolding further_argument further_argument_at
further_argument_rule = rules.seq tokens comma_rule (λ _. argument_rule) refl

further_argument_opens : Opens tokens COMMA (further_argument any_shape)
unfolding further_argument
further_argument_opens = rules.opens_seq tokens COMMA (the kinds.Comma) (the_opens kinds.Comma) (λ _. argument_rule)

some_arguments_rule : Rule tokens (some_arguments memory_shape) (some_arguments any_shape) some_arguments_at REG COMMA false
unfolding some_arguments some_arguments_at arguments_behind_at
some_arguments_rule = rules.seq tokens argument_rule (λ first. rules.seq tokens (rules.star tokens COMMA further_argument_rule further_argument_opens refl refl) (λ _. rules.nothing tokens _) refl) refl

any_arguments_rule : Rule tokens (any_arguments memory_shape) (any_arguments any_shape) any_arguments_at LISTED [] false
unfolding any_arguments any_arguments_at
any_arguments_rule = rules.broader tokens LISTED [] (rules.alt tokens REG (rules.seq tokens some_arguments_rule (λ _. rules.seq tokens close_paren_rule (λ _. rules.nothing tokens _) refl) refl) (rules.seq tokens end_of_none_rule (λ _. rules.nothing tokens _) refl) refl refl) refl refl

-- ---- arguments of the types that are written

type_again_rule : (w : Tok) → Rule tokens (type_again w) (type_again w) (type_again_at w) REG [] false
type_again_rule w = let s = writes w in rules.exact_rule tokens type_refusal type_not_number type_not_limit REG refl (is_type w) reg_of s.it s.is_reg s.same s.real

argument_of_rule : (w : Tok) → Rule tokens (argument_of memory_shape w) (argument_of any_shape w) (argument_of_at w) REG [] false
unfolding argument_of argument_of_at
argument_of_rule w = rules.seq tokens (type_again_rule w) argument_behind_rule refl

further_of_rule : (w : Tok) → Rule tokens (further_of memory_shape w) (further_of any_shape w) (further_of_at w) COMMA [] false
unfolding further_of further_of_at
further_of_rule w = rules.seq tokens comma_rule (λ _. argument_of_rule w) refl

each_further_rule : (ws : List Tok) → Rule tokens (each_further memory_shape ws) (each_further any_shape ws) (each_further_at ws) COMMA [] true
each_further_rule [] = rules.wider tokens COMMA [] (rules.nothing tokens []) refl refl
each_further_rule (w ∷ ws) = rules.wider tokens COMMA [] (rules.seq tokens (further_of_rule w) (λ a. rules.seq tokens (each_further_rule ws) (λ more. rules.nothing tokens (a ∷ more)) refl) refl) refl refl

some_of_rule : (w : Tok) (ws : List Tok) → Rule tokens (some_of memory_shape w ws) (some_of any_shape w ws) (some_of_at w ws) REG [] false
unfolding some_of some_of_at each_behind_at
some_of_rule w ws = rules.seq tokens (argument_of_rule w) (λ first. rules.seq tokens (each_further_rule ws) (λ more. rules.nothing tokens (first ∷ more)) refl) refl

arguments_of_rule : (ws : List Tok) → Rule tokens (arguments_of memory_shape ws) (arguments_of any_shape ws) (arguments_of_at ws) LISTED [] false
arguments_of_rule [] = rules.broader tokens LISTED [] (rules.seq tokens close_paren_rule (λ _. rules.nothing tokens []) refl) refl refl
arguments_of_rule (w ∷ ws) = rules.broader tokens LISTED [] (rules.seq tokens (some_of_rule w ws) (λ as'. rules.seq tokens close_paren_rule (λ _. rules.nothing tokens as') refl) refl) refl refl

arguments_rule : (ws : Option (List Tok)) → Rule tokens (arguments memory_shape ws) (arguments any_shape ws) (arguments_at ws) LISTED [] false
arguments_rule None = any_arguments_rule
arguments_rule (Some ws) = arguments_of_rule ws

-- ---- what is called

abbrev by_marker : Bool → TokenFault → TokenFault
by_marker b k = cond b Syntax k

neither : (b : Bool) (k l : TokenFault) → (Syntax ≡ l → ⊥) → (k ≡ l → ⊥) → by_marker b k ≡ l → ⊥
neither true k l p q e = p e
neither false k l p q e = q e

marker_not_number : (n : ℕ) → marker_refusal n ≡ Number → ⊥
marker_not_number n e = neither (nat_eq n (number kinds.LifetimeMarker)) (refusal n) Number (λ x. cc) (not_number n) e

marker_not_limit : (n : ℕ) → marker_refusal n ≡ Limit → ⊥
marker_not_limit n e = neither (nat_eq n (number kinds.LifetimeMarker)) (refusal n) Limit (λ x. cc) (not_limit n) e

unmarked_rule : Rule tokens unmarked unmarked unmarked_at POINTER_OPERAND [] false
unmarked_rule = rules.valued_rule tokens marker_refusal marker_not_number marker_not_limit POINTER_OPERAND (operand_of Ptr) (λ t p q. operand_within Ptr t.kind t refl p q) (word kinds.Null (codes "null")) operands.Null refl refl null_real

-- what is called begins with
abbrev CALLEE : List ℕ
CALLEE = number kinds.LifetimeMarker ∷ OPERAND

called_value_rule : Rule tokens (called_value memory_shape) (called_value any_shape) called_value_at OPERAND [] false
unfolding called_value called_value_at
called_value_rule = rules.seq tokens (operand_rule Ptr) (λ _. rules.nothing tokens _) refl

marker_rule : Rule tokens marker marker marker_at MARKER [] false
unfolding marker marker_at
marker_rule = rules.seq tokens marker_name_rule (λ _. rules.nothing tokens None) refl

unmarked_value_rule : Rule tokens (unmarked_value memory_shape) (unmarked_value any_shape) unmarked_value_at CALLEE [] false
unfolding unmarked_value unmarked_value_at
unmarked_value_rule = rules.broader tokens CALLEE [] (rules.seq tokens (rules.alt tokens ADDRESS address_rule unmarked_rule refl refl) (λ _. rules.nothing tokens _) refl) refl refl

callee_rule : (named : Bool) (r : Option Reg) → Rule tokens (callee memory_shape named r) (callee any_shape named r) (callee_at named r) CALLEE [] false
callee_rule named (Some r) = rules.broader tokens CALLEE [] called_value_rule refl refl
callee_rule true None = unmarked_value_rule
callee_rule false None = rules.broader tokens CALLEE [] (rules.alt tokens MARKER marker_rule called_value_rule refl refl) refl refl

-- ---- calls

-- what follows `call` begins with
abbrev pub CALLED : List ℕ
CALLED = CONVENTIONS ++ RESULT

-- what may go on behind a call
abbrev pub BEHIND_CALL : List ℕ
BEHIND_CALL = number kinds.OpenParen ∷ number kinds.Comma ∷ number kinds.Equals ∷ CALL

pub calling_rule : (named : Bool) → Rule tokens (calling memory_shape named) (calling any_shape named) (calling_at named) CALLED BEHIND_CALL false
unfolding calling calling_at
calling_rule named = rules.broader tokens CALLED BEHIND_CALL
    (rules.seq tokens conventions_rule
    (λ _. rules.seq tokens result_rule
    (λ r. rules.seq tokens (rules.maybe tokens PAREN types_rule refl)
    (λ ws. rules.seq tokens (callee_rule named r)
    (λ f. rules.seq tokens open_paren_rule
    (λ _. rules.seq tokens (arguments_rule ws)
    (λ as'. rules.seq tokens call_attributes_rule (λ _. rules.seq tokens attachments_rule (λ _. rules.nothing tokens (called r f as')) refl) refl)
    refl) refl) refl) refl) refl) refl)
    refl refl

pub tail_calling_rule : (named : Bool) → Rule tokens (tail_calling memory_shape named) (tail_calling any_shape named) (tail_calling_at named) (number kinds.Call ∷ []) BEHIND_CALL false
unfolding tail_calling tail_calling_at
tail_calling_rule named = rules.broader tokens _ BEHIND_CALL (rules.seq tokens call_word_rule (λ _. calling_rule named) refl) refl refl
