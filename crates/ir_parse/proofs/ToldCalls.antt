-- The first fault of the readers of calls is of a kind that its token allows.
use Rattle.ir_parse.proofs.Told.{Tells, never_class, seq, nothing, alt, star, maybe, Refuses, one, exact, valued, the_told, refusal_refuses, Allowed, type_refusal_refuses}
use Rattle.std.specs.Prelude.{Bool, true, false, Option, Some, None, List, [], ◌∷◌}
use Rattle.ir_lex.specs.declared.token_kind.TokenKind.TheVariants as kinds
use Rattle.ir_lex.specs.TokenKinds.{number}
use Rattle.ir_lex.specs.Tok.{Tok}
use Rattle.ir_tree.specs.declared.operand.Reg.{Reg}
use Rattle.ir_tree.specs.declared.operand.Reg.TheVariants.{Ptr}
use Rattle.ir_parse_parts.specs.Alphabet.{among}
use Rattle.ir_parse.proofs.ToldAttributes.{parameter_attribute_told, parameter_attributes_told, call_attributes_told}
use Rattle.ir_parse_parts.specs.Classes.{tokens, itself, refusal}
use Rattle.ir_parse_parts.specs.declared.raw.Argument.{Argument}
use Rattle.ir_parse_parts.specs.declared.raw.Operand.{Operand}
use Rattle.ir_parse.proofs.ToldFunctionHeads.{end_of_none_told}
use Rattle.ir_parse_parts.specs.MetadataAt.{COMMA, PAREN}
use Rattle.ir_parse.proofs.ToldMetadata.{attachments_told}
use Rattle.ir_parse_parts.specs.Operands.{REG, type_refusal, reg_of, classes_of, operand_of}
use Rattle.ir_parse.proofs.ToldOperands.{reg_told, result_told}
use Rattle.ir_parse_operands.specs.ValuesAt.{ADDRESS}
use Rattle.ir_parse.proofs.ToldValues.{address_told, operand_told}
use Rattle.ir_parse_bodies.specs.Calls.{is_type, marker_refusal}
use Rattle.ir_parse_bodies.specs.CallsAt.{CONVENTION, CONVENTIONS, MARKER, convention_at, conventions_at, written_type_at, further_type_at, types_behind_at, some_types_at, listed_types_at, types_at, argument_behind_at, argument_at, further_argument_at, arguments_behind_at, some_arguments_at, any_arguments_at, type_again_at, argument_of_at, further_of_at, each_further_at, each_behind_at, some_of_at, arguments_of_at, arguments_at, called_value_at, marker_at, unmarked_at, unmarked_value_at, callee_at, maybe_types_at, called_at, calling_with_at, calling_of_at, calling_at, tail_calling_at}
use Rattle.std.proofs.Common.{nat_eq, Bool, true, false, cond, ◌≡◌, refl}
use Rattle.ir_parse_parts.specs.declared.fault.TokenFault.TheVariants.{Syntax}

pub convention_told : Tells convention_at
unfolding convention_at
convention_told = alt (among tokens CONVENTION) (the_told kinds.CallingConvention) parameter_attribute_told

pub conventions_told : Tells conventions_at
unfolding conventions_at
conventions_told = seq (star CONVENTIONS refl convention_told) (λ _. nothing _)

pub written_type_told : Tells written_type_at
written_type_told = one type_refusal type_refusal_refuses REG itself

pub further_type_told : Tells further_type_at
unfolding further_type_at
further_type_told = seq (the_told kinds.Comma) (λ _. written_type_told)

pub types_behind_told : (first : Tok) → Tells (types_behind_at first)
unfolding types_behind_at
types_behind_told first = seq (star COMMA refl further_type_told) (λ more. nothing _)

pub some_types_told : Tells some_types_at
unfolding some_types_at
some_types_told = seq written_type_told (λ first. types_behind_told first)

pub listed_types_told : Tells listed_types_at
unfolding listed_types_at
listed_types_told =
    alt (among tokens REG) (seq some_types_told (λ ws. seq (the_told kinds.CloseParen) (λ _. nothing _))) (seq end_of_none_told (λ _. nothing _))

pub types_told : Tells types_at
unfolding types_at
types_told = seq (the_told kinds.OpenParen) (λ _. listed_types_told)

pub argument_behind_told : (r : Reg) → Tells (argument_behind_at r)
unfolding argument_behind_at
argument_behind_told r = seq parameter_attributes_told (λ _. seq (operand_told r) (λ v. nothing _))

pub argument_told : Tells argument_at
unfolding argument_at
argument_told = seq reg_told (λ r. argument_behind_told r)

pub further_argument_told : Tells further_argument_at
unfolding further_argument_at
further_argument_told = seq (the_told kinds.Comma) (λ _. argument_told)

pub arguments_behind_told : (first : Argument) → Tells (arguments_behind_at first)
unfolding arguments_behind_at
arguments_behind_told first = seq (star COMMA refl further_argument_told) (λ more. nothing _)

pub some_arguments_told : Tells some_arguments_at
unfolding some_arguments_at
some_arguments_told = seq argument_told (λ first. arguments_behind_told first)

pub any_arguments_told : Tells any_arguments_at
unfolding any_arguments_at
any_arguments_told =
    alt (among tokens REG) (seq some_arguments_told (λ as'. seq (the_told kinds.CloseParen) (λ _. nothing _))) (seq end_of_none_told (λ _. nothing _))

pub type_again_told : (w : Tok) → Tells (type_again_at w)
type_again_told w = exact type_refusal type_refusal_refuses REG (is_type w) reg_of

pub argument_of_told : (w : Tok) → Tells (argument_of_at w)
unfolding argument_of_at
argument_of_told w = seq (type_again_told w) (λ r. argument_behind_told r)

pub further_of_told : (w : Tok) → Tells (further_of_at w)
unfolding further_of_at
further_of_told w = seq (the_told kinds.Comma) (λ _. argument_of_told w)

pub each_further_told : (x0 : List Tok) → Tells (each_further_at x0)
each_further_told [] = nothing _
each_further_told (w ∷ ws) = seq (further_of_told w) (λ a. seq (each_further_told ws) (λ more. nothing _))

pub each_behind_told : (ws : List Tok) → (first : Argument) → Tells (each_behind_at ws first)
unfolding each_behind_at
each_behind_told ws first = seq (each_further_told ws) (λ more. nothing _)

pub some_of_told : (w : Tok) → (ws : List Tok) → Tells (some_of_at w ws)
unfolding some_of_at
some_of_told w ws = seq (argument_of_told w) (λ first. each_behind_told ws first)

pub arguments_of_told : (x0 : List Tok) → Tells (arguments_of_at x0)
arguments_of_told [] = seq (the_told kinds.CloseParen) (λ _. nothing _)
arguments_of_told (w ∷ ws) = seq (some_of_told w ws) (λ as'. seq (the_told kinds.CloseParen) (λ _. nothing _))

pub arguments_told : (x0 : Option (List Tok)) → Tells (arguments_at x0)
arguments_told None = any_arguments_told
arguments_told (Some ws) = arguments_of_told ws

pub called_value_told : Tells called_value_at
unfolding called_value_at
called_value_told = seq (operand_told Ptr) (λ v. nothing _)

pub marker_told : Tells marker_at
unfolding marker_at
marker_told = seq (the_told kinds.LifetimeMarker) (λ _. nothing _)

marker_refusal_refuses : Refuses marker_refusal
marker_refusal_refuses n = by_test (nat_eq n (number kinds.LifetimeMarker)) refl
  where
    by_test : (b : Bool) → nat_eq n (number kinds.LifetimeMarker) ≡ b → Allowed n (cond b Syntax (refusal n))
    by_test true e = never_class (number kinds.LifetimeMarker) refl n e
    by_test false e = refusal_refuses n

pub unmarked_told : Tells unmarked_at
unmarked_told = valued marker_refusal marker_refusal_refuses (classes_of Ptr) refl (operand_of Ptr)

pub unmarked_value_told : Tells unmarked_value_at
unfolding unmarked_value_at
unmarked_value_told = seq (alt (among tokens ADDRESS) address_told unmarked_told) (λ v. nothing _)

pub callee_told : (named : Bool) → (x1 : Option Reg) → Tells (callee_at named x1)
callee_told named (Some r) = called_value_told
callee_told true None = unmarked_value_told
callee_told false None = alt (among tokens MARKER) marker_told called_value_told

pub maybe_types_told : Tells maybe_types_at
maybe_types_told = maybe (among tokens PAREN) types_told

pub called_told : (r : Option Reg) → (f : Option Operand) → (as' : List Argument) → Tells (called_at r f as')
called_told r f as' = seq call_attributes_told (λ _. seq attachments_told (λ _. nothing _))

pub calling_with_told : (r : Option Reg) → (ws : Option (List Tok)) → (f : Option Operand) → Tells (calling_with_at r ws f)
calling_with_told r ws f = seq (the_told kinds.OpenParen) (λ _. seq (arguments_told ws) (λ as'. called_told r f as'))

pub calling_of_told : (named : Bool) → (r : Option Reg) → Tells (calling_of_at named r)
calling_of_told named r = seq maybe_types_told (λ ws. seq (callee_told named r) (λ f. calling_with_told r ws f))

pub calling_told : (named : Bool) → Tells (calling_at named)
unfolding calling_at
calling_told named = seq conventions_told (λ _. seq result_told (λ r. calling_of_told named r))

pub tail_calling_told : (named : Bool) → Tells (tail_calling_at named)
unfolding tail_calling_at
tail_calling_told named = seq (the_told kinds.Call) (λ _. calling_told named)
