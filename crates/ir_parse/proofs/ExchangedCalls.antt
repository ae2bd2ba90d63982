-- The readers of calls tell a token that is left out in some places where one that it stands for goes on.
use Rattle.std.proofs.Common.{◌≡◌, ℕ, nat_eq, Bool, true, false, cond, Option, Some, None, List, [], ◌∷◌, Result, Ok, Err, refl, sym, ap, inl, arith}
use Rattle.std.specs.Prelude.{codes}
use Rattle.ir_lex.specs.TokenKinds.{number}
use Rattle.ir_lex.specs.Tok.{Tok}
use Rattle.ir_lex.specs.declared.token_kind.TokenKind.TheVariants as kinds
use Rattle.ir_lex.specs.declared.token_kind.TokenKind.{TokenKind}
use Rattle.ir_tree.specs.declared.operand.Reg.TheVariants.{Ptr, Int}
use Rattle.ir_tree.specs.declared.operand.Reg.{Reg}
use Rattle.ir_parse_parts.proofs.Rules as rules
use Rattle.ir_parse_parts.specs.Alphabet.{among, contains}
use Rattle.ir_parse_parts.specs.Forms as form
use Rattle.ir_parse_parts.specs.Lawful.{IsBound}
use Rattle.ir_parse_parts.specs.Readers.{done, follow, ◌>>=◌}
use Rattle.ir_parse_parts.specs.Rules.{is_among, is_class, is_valued}
use Rattle.ir_parse_parts.specs.declared.fault.TokenFault.TheVariants.{Syntax}
use Rattle.ir_parse_parts.specs.declared.fault.TokenFault.{TokenFault}
use Rattle.ir_parse_heads.specs.Attributes.{call_attributes}
use Rattle.ir_parse_heads.specs.AttributesAt.{call_attributes_at}
use Rattle.ir_parse_parts.specs.Classes.{tokens, IsReal, refusal, the, the_at, itself}
use Rattle.ir_parse_parts.specs.Metadata.{attachments}
use Rattle.ir_parse_parts.specs.MetadataAt.{COMMA, PAREN, attachments_at}
use Rattle.ir_parse_parts.specs.Operands.{REG, RESULT, POINTER_OPERAND, result, type_refusal, reg_of, operand_of}
use Rattle.ir_parse_parts.specs.OperandsAt.{reg_at}
use Rattle.ir_parse_operands.specs.ShapeForms.{any_shape}
use Rattle.ir_parse_operands.specs.ValuesAt.{ADDRESS}
use Rattle.ir_parse_parts.specs.declared.raw.Operand.{Operand}
use Rattle.ir_parse_parts.specs.declared.raw.Operand.TheVariants as operands
use Rattle.ir_parse_parts.proofs.OperandRules.{type_not_number, type_not_limit}
use Rattle.ir_parse_parts.proofs.Singles.{word}
use Rattle.ir_parse_parts.proofs.Words.{int_32_real, null_real}
use Rattle.ir_parse_bodies.specs.Calls.{convention, conventions, written_type, further_type, some_types, listed_types, types, argument_behind, argument, further_argument, some_arguments, any_arguments, is_type, type_again, argument_of, further_of, each_further, some_of, arguments_of, arguments, called_value, marker, marker_refusal, unmarked, unmarked_value, callee, called, calling, same_reg}
use Rattle.ir_parse_bodies.specs.CallsAt.{CONVENTION, CONVENTIONS, MARKER, convention_at, conventions_at, written_type_at, further_type_at, types_behind_at, some_types_at, listed_types_at, types_at, argument_behind_at, argument_at, further_argument_at, arguments_behind_at, some_arguments_at, any_arguments_at, type_again_at, argument_of_at, further_of_at, each_further_at, each_behind_at, some_of_at, arguments_of_at, arguments_at, called_value_at, marker_at, unmarked_at, unmarked_value_at, callee_at, calling_at}
use Rattle.ir_parse_bodies.proofs.CallRules.{convention_rule, further_argument_rule, further_type_rule}
use Rattle.ir_parse_bodies.proofs.Samples.{convention_word_rule, marker_name_rule, call_word_rule}
use Rattle.ir_parse_bodies.proofs.WrittenTypes.{writes}
use Rattle.ir_parse.specs.NamedCalls.{before_callee}
use Rattle.ir_parse.specs.Refusals.{MEMORY}
use Rattle.ir_parse.proofs.Exchanged.{differ, Exchanges, Place, SaysAt, Swapping, alt, alt_by, maybe, nothing, nowhere, placed_too, seq, seq_from, seq_to, single_at, star, taken, stands_for, Exchanging, a_type, seq_into, seq_passing}
use Rattle.ir_parse.proofs.ExchangedAttributes.{call_attributes_exchanged, parameter_attribute_exchanged, parameter_attributes_exchanged}
use Rattle.ir_parse.proofs.ExchangedNodes.{attachments_exchanged, no_attachments}
use Rattle.ir_parse.proofs.ExchangedOperands.{reg_exchanged, result_exchanged}
use Rattle.ir_parse.proofs.ExchangedTokens.{by_telling, elsewhere_at, exact_type, i16_real, i8_real, plain_class, refuses_angle, type_one, none_taken, not_bound, plain_at, says_at, valued_inside, valued_outside}
use Rattle.ir_parse.proofs.ExchangedTypes.{listed_exchanged as typed_list, Types, type_told, types_first}
use Rattle.ir_parse.proofs.ExchangedValues.{address_exchanged, operand_exchanged}
use Rattle.ir_parse.proofs.ExchangedWords.{close_paren_exchanged, comma_exchanged, open_paren_exchanged}

convention_word_exchanged : Exchanges (the kinds.CallingConvention) (the_at kinds.CallingConvention)
convention_word_exchanged = plain_class kinds.CallingConvention convention_word_rule refl

marker_name_exchanged : Exchanges (the kinds.LifetimeMarker) (the_at kinds.LifetimeMarker)
marker_name_exchanged = plain_class kinds.LifetimeMarker marker_name_rule refl

pub call_word_exchanged : Exchanges (the kinds.Call) (the_at kinds.Call)
call_word_exchanged = plain_class kinds.Call call_word_rule refl

pub convention_exchanged : Exchanges convention convention_at
unfolding convention convention_at
convention_exchanged = alt CONVENTION refl convention_word_exchanged parameter_attribute_exchanged

pub conventions_exchanged : Exchanges conventions conventions_at
unfolding conventions conventions_at
conventions_exchanged = seq (star CONVENTIONS refl convention_exchanged (taken convention_rule)) (λ _. nothing tt)

pub written_type_exchanged : Exchanges written_type written_type_at
written_type_exchanged = type_one REG itself (rules.among_rule tokens type_refusal type_not_number type_not_limit REG itself (word kinds.MemoryInteger (codes "i32")) refl int_32_real) refl refl (word kinds.MemoryInteger (codes "i32")) refl int_32_real refl

pub further_type_exchanged : Exchanges further_type further_type_at
unfolding further_type further_type_at
further_type_exchanged = seq comma_exchanged (λ _. written_type_exchanged)

pub some_types_exchanged : Exchanges some_types some_types_at
unfolding some_types some_types_at types_behind_at
some_types_exchanged = seq written_type_exchanged (λ first. seq (star COMMA refl further_type_exchanged (taken further_type_rule)) (λ _. nothing _))

some_types_types : Types some_types_at
unfolding some_types_at
some_types_types = types_first written_type_at (type_told itself) _

pub listed_types_exchanged : Exchanges listed_types listed_types_at
unfolding listed_types listed_types_at
listed_types_exchanged = typed_list kinds.CloseParen refl close_paren_exchanged [] (seq some_types_exchanged (λ ws. seq close_paren_exchanged (λ _. nothing ws))) (types_first some_types_at some_types_types _)

pub types_exchanged : Exchanges types types_at
unfolding types types_at
types_exchanged = seq open_paren_exchanged (λ _. listed_types_exchanged)

pub argument_behind_exchanged : (r : Reg) → Exchanges (argument_behind any_shape r) (argument_behind_at r)
unfolding argument_behind argument_behind_at
argument_behind_exchanged r = seq parameter_attributes_exchanged (λ _. seq (operand_exchanged r) (λ _. nothing _))

pub argument_exchanged : Exchanges (argument any_shape) argument_at
unfolding argument argument_at
argument_exchanged = seq reg_exchanged argument_behind_exchanged

pub further_argument_exchanged : Exchanges (further_argument any_shape) further_argument_at
unfolding further_argument further_argument_at
further_argument_exchanged = seq comma_exchanged (λ _. argument_exchanged)

pub some_arguments_exchanged : Exchanges (some_arguments any_shape) some_arguments_at
unfolding some_arguments some_arguments_at arguments_behind_at
some_arguments_exchanged = seq argument_exchanged (λ first. seq (star COMMA refl further_argument_exchanged (taken further_argument_rule)) (λ _. nothing _))

argument_types : Types argument_at
unfolding argument_at
argument_types = types_first reg_at (type_told reg_of) _

some_arguments_types : Types some_arguments_at
unfolding some_arguments_at
some_arguments_types = types_first argument_at argument_types _

pub any_arguments_exchanged : Exchanges (any_arguments any_shape) any_arguments_at
unfolding any_arguments any_arguments_at
any_arguments_exchanged = typed_list kinds.CloseParen refl close_paren_exchanged [] (seq some_arguments_exchanged (λ as'. seq close_paren_exchanged (λ _. nothing as'))) (types_first some_arguments_at some_arguments_types _)

same : (n m : ℕ) → nat_eq n m ≡ true → n ≡ m
same n m h = grind arith

not_both : (r : Reg) → same_reg r (Int 8) ≡ true → same_reg r (Int 16) ≡ false
not_both Ptr e = refl
not_both (Int v) e = ap (λ (n : ℕ). nat_eq n 16) (same v 8 e)

abbrev i8 : Tok
i8 = word kinds.MemoryInteger (codes "i8")

abbrev i16 : Tok
i16 = word kinds.MemoryInteger (codes "i16")

-- an integer of another width
record Other (w : Tok) : Type 0 where
  it : Tok
  memory : among tokens MEMORY it ≡ true
  other : is_type w it ≡ false
  real : IsReal it

other_than : (w : Tok) → Other w
other_than w = by_test (same_reg (reg_of w) (Int 8)) refl
  where
    by_test : (b : Bool) → same_reg (reg_of w) (Int 8) ≡ b → Other w
    by_test true e = record { it = i16; memory = refl; other = not_both (reg_of w) e; real = i16_real }
    by_test false e = record { it = i8; memory = refl; other = e; real = i8_real }

pub type_again_exchanged : (w : Tok) → Exchanges (type_again w) (type_again_at w)
type_again_exchanged w =
    let s = writes w in
    let o = other_than w in
    exact_type REG (is_type w) reg_of refl s.it s.is_reg s.is_reg s.same s.real o.it o.memory o.other o.real (rules.exact_rule tokens type_refusal type_not_number type_not_limit REG refl (is_type w) reg_of s.it s.is_reg s.same s.real)

pub argument_of_exchanged : (w : Tok) → Exchanges (argument_of any_shape w) (argument_of_at w)
unfolding argument_of argument_of_at
argument_of_exchanged w = seq (type_again_exchanged w) argument_behind_exchanged

pub further_of_exchanged : (w : Tok) → Exchanges (further_of any_shape w) (further_of_at w)
unfolding further_of further_of_at
further_of_exchanged w = seq comma_exchanged (λ _. argument_of_exchanged w)

pub each_further_exchanged : (ws : List Tok) → Exchanges (each_further any_shape ws) (each_further_at ws)
each_further_exchanged [] = nothing []
each_further_exchanged (w ∷ ws) = seq (further_of_exchanged w) (λ a. seq (each_further_exchanged ws) (λ more. nothing (a ∷ more)))

pub some_of_exchanged : (w : Tok) (ws : List Tok) → Exchanges (some_of any_shape w ws) (some_of_at w ws)
unfolding some_of some_of_at each_behind_at
some_of_exchanged w ws = seq (argument_of_exchanged w) (λ first. seq (each_further_exchanged ws) (λ more. nothing (first ∷ more)))

marker_not_bound : (n : ℕ) → IsBound (marker_refusal n) → ⊥
marker_not_bound n b = by_test (nat_eq n (number kinds.LifetimeMarker)) b
  where
    by_test : (c : Bool) → IsBound (cond c Syntax (refusal n)) → ⊥
    by_test true b = b
    by_test false b = not_bound n b

abbrev unmarked_none : (h : TokenKind) → plain_at POINTER_OPERAND h ≡ true → contains POINTER_OPERAND (number h) ≡ false → (u : Tok) → among tokens (stands_for false h) u ≡ true → (k : TokenFault) × (IsBound k → ⊥) × (is_valued tokens marker_refusal POINTER_OPERAND (operand_of Ptr) u ≡ Err k)
unmarked_none = none_taken unmarked (is_valued tokens marker_refusal POINTER_OPERAND (operand_of Ptr)) POINTER_OPERAND marker_refusal marker_not_bound (valued_outside marker_refusal POINTER_OPERAND (operand_of Ptr)) (valued_inside marker_refusal POINTER_OPERAND (operand_of Ptr))

null_means : is_valued tokens marker_refusal POINTER_OPERAND (operand_of Ptr) (word kinds.Null (codes "null")) ≡ Ok operands.Null
unfolding is_valued
null_means = refl

-- what stands before the callee
abbrev here : Place
here = form.gives tt

abbrev unmarked_means : Tok → Result Operand TokenFault
unmarked_means = is_valued tokens marker_refusal POINTER_OPERAND (operand_of Ptr)

unmarked_class : (h : TokenKind) → contains POINTER_OPERAND (number h) ≡ false → SaysAt here unmarked unmarked_means h (marker_refusal (number h))
unmarked_class = by_telling (λ h. contains POINTER_OPERAND (number h) ≡ false → SaysAt here unmarked unmarked_means h (marker_refusal (number h)))
    (λ n. unmarked_none kinds.RefusedType refl n)
    (λ n. inl (λ u i. unmarked_none kinds.Target refl n u (a_type u i)))
    (λ n. (i8, refl, i8_real, unmarked_none kinds.RegisterInteger refl n i8 refl))
    (λ n. absurd (differ (sym n)))
    (λ n. absurd (differ (sym n)))
    (λ n. (refl, refl))
    (λ n. unmarked_none kinds.Str refl n)
    (λ h t n. elsewhere_at here unmarked unmarked_means h (marker_refusal (number h)) t)

pub unmarked_exchanged : Swapping false here unmarked unmarked_at
unmarked_exchanged = single_at false here unmarked unmarked_means (λ t a i e. absurd (refuses_angle unmarked_means POINTER_OPERAND marker_refusal (valued_outside marker_refusal POINTER_OPERAND (operand_of Ptr)) refl t a i e)) (λ t a e. e) (word kinds.Null (codes "null") ∷ [], operands.Null, null_means, (null_real, tt))
    (says_at here unmarked unmarked_means POINTER_OPERAND marker_refusal marker_not_bound (valued_outside marker_refusal POINTER_OPERAND (operand_of Ptr)) (valued_inside marker_refusal POINTER_OPERAND (operand_of Ptr)) unmarked_class)

pub called_value_exchanged : Exchanges (called_value any_shape) called_value_at
unfolding called_value called_value_at
called_value_exchanged = seq (operand_exchanged Ptr) (λ _. nothing _)

pub marker_exchanged : Exchanges marker marker_at
unfolding marker marker_at
marker_exchanged = seq marker_name_exchanged (λ _. nothing None)

pub unmarked_value_exchanged : Swapping false here (unmarked_value any_shape) unmarked_value_at
unfolding unmarked_value unmarked_value_at
unmarked_value_exchanged = seq_from (alt_by here ADDRESS (inl refl) address_exchanged unmarked_exchanged (λ front v. absurd v) (λ front v. v)) (λ _. nothing _)

abbrev callee_place : Bool → Option Reg → Place
callee_place named (Some r) = nowhere
callee_place true None = here
callee_place false None = nowhere

pub callee_exchanged : (named : Bool) (r : Option Reg) → Swapping false (callee_place named r) (callee any_shape named r) (callee_at named r)
callee_exchanged named (Some r) = called_value_exchanged
callee_exchanged true None = unmarked_value_exchanged
callee_exchanged false None = alt MARKER refl marker_exchanged called_value_exchanged

-- ---- arguments, behind what opens them

-- arguments of the types that are written, and the bracket behind them
arguments_of_exchanged : (ws : List Tok) → Exchanges (arguments_of any_shape ws) (arguments_of_at ws)
arguments_of_exchanged [] = seq close_paren_exchanged (λ _. nothing [])
arguments_of_exchanged (w ∷ ws) = seq (some_of_exchanged w ws) (λ as'. seq close_paren_exchanged (λ _. nothing as'))

arguments_exchanged : (ws : Option (List Tok)) → Exchanges (arguments any_shape ws) (arguments_at ws)
arguments_exchanged None = any_arguments_exchanged
arguments_exchanged (Some ws) = arguments_of_exchanged ws

-- ---- calls

-- what stands behind the arguments
behind_arguments : {B : Type 0} (b : B) → Exchanging true (form.◌>>=◌ call_attributes (λ _. form.◌>>=◌ attachments (λ _. form.gives b))) (call_attributes_at >>= λ _. attachments_at >>= λ _. done b)
behind_arguments b = seq_passing call_attributes_exchanged (λ _. seq attachments_exchanged (λ _. nothing b)) (λ _ t rest q. (b, ap (λ r. follow r (λ _. done b)) (no_attachments t rest q)))

abbrev behind_result : Bool → Option Reg → Place
behind_result named r = form.◌>>=◌ (form.optional types) (λ _. callee_place named r)

abbrev calling_place : Bool → Place
calling_place named = form.◌>>=◌ conventions (λ _. form.◌>>=◌ result (λ r. behind_result named r))

calling_exchanged : (named : Bool) → Swapping true (calling_place named) (calling any_shape named) (calling_at named)
unfolding calling calling_at
calling_exchanged named =
    seq_to conventions_exchanged (λ _. seq_to result_exchanged (λ r. seq_to (maybe PAREN refl types_exchanged) (λ ws. seq_from (callee_exchanged named r) (λ f. seq_into open_paren_exchanged (λ _. seq_into (arguments_exchanged ws) (λ as'. behind_arguments (called r f as')))))))

abbrev fine : Unit {0} → Result (Unit {0}) TokenFault
fine u = Ok u

abbrev failed : TokenFault → Result (Unit {0}) TokenFault
failed k = Err k

abbrev no_result : Result (Option Reg) TokenFault
no_result = Ok None

-- ---- a lifetime marker against the syntax: as the callee of a void call that has a name

void_is : (ts : List Tok) → result ts None → the kinds.Void ts tt
unfolding is_among is_class
void_is [] s = absurd s
void_is (t ∷ []) s = by_tests (among tokens RESULT t) (nat_eq (number t.kind) (number kinds.Void)) s
  where
    by_tests : (b c : Bool) → cond b (Ok (cond c None (Some (reg_of t)))) (Err (type_refusal (number t.kind))) ≡ no_result → cond c (fine tt) (failed (refusal (number t.kind))) ≡ fine tt
    by_tests b true s = refl
    by_tests true false s = absurd cc
    by_tests false false s = absurd cc
void_is (t ∷ u ∷ ts) s = absurd s

never_unnamed : (front : List Tok) → calling_place false front tt → ⊥
unfolding form.◌>>=◌
never_unnamed front (one, two, u, e, s, (one', two', None, e', s', (one'', two'', ws, e'', s'', v))) = v
never_unnamed front (one, two, u, e, s, (one', two', Some r, e', s', (one'', two'', ws, e'', s'', v))) = v

pub named_place : (front : List Tok) → calling_place true front tt → before_callee front tt
unfolding before_callee form.◌>>=◌
named_place front (one, two, u, e, s, (one', two', None, e', s', v)) = (one, two, u, e, s, (one', two', tt, e', void_is one' s', v))
named_place front (one, two, u, e, s, (one', two', Some r, e', s', (one'', two'', ws, e'', s'', v))) = absurd v

pub unnamed_calling_exchanged : Exchanging true (calling any_shape false) (calling_at false)
unnamed_calling_exchanged = placed_too nowhere never_unnamed (calling_exchanged false)

pub named_calling_exchanged : Swapping true before_callee (calling any_shape true) (calling_at true)
named_calling_exchanged = placed_too before_callee named_place (calling_exchanged true)
