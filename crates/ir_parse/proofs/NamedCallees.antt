-- A lifetime marker as the callee of a void call that has a name is told against the syntax.
use Rattle.std.proofs.Common.{◌≡◌, ℕ, ◌-◌, ◌<◌, suc, nat_eq, Bool, true, false, cond, Option, Some, None, ◌||◌, inl, inr, List, [], ◌∷◌, ◌++◌, length, Result, Ok, Err, refl, sym, ap, subst, ◌∙◌, arith, append_assoc}
use Rattle.std.proofs.lemmas.List.{append-nil, length-append}
use Rattle.std.specs.List.{fold}
use Rattle.std.specs.Prelude.{codes}
use Rattle.ir_lex.specs.TokenKinds.{number}
use Rattle.ir_lex.specs.Tok.{Tok}
use Rattle.ir_lex.specs.declared.token_kind.TokenKind.TheVariants as kinds
use Rattle.ir_lex.specs.declared.token.TokenForm.TheVariants as forms
use Rattle.ir_lex.specs.declared.token_kind.TokenKind.{TokenKind}
use Rattle.ir_tree.specs.declared.operand.Reg.TheVariants.{Ptr}
use Rattle.ir_parse_parts.proofs.Composed.{limit_up, with_wide, wrong, wrong_is}
use Rattle.ir_parse_parts.proofs.Rules as rules
use Rattle.ir_parse_parts.specs.Alphabet.{among, contains}
use Rattle.ir_parse_parts.specs.Chained.{chain_at, chain_within}
use Rattle.ir_parse_parts.specs.Forms as form
use Rattle.ir_parse_parts.specs.Lawful.{IsBound, UpTo}
use Rattle.ir_parse_parts.specs.Readers.{Reader, done, fault_at, ◌>>=◌, pick, token_means, whole_of}
use Rattle.ir_parse_parts.specs.Rules.{Rule, disjoint, in_range, is_among, is_class, is_valued, subset}
use Rattle.ir_parse_parts.specs.declared.fault.Fault.{Fault}
use Rattle.ir_parse_parts.specs.declared.fault.TokenFault.TheVariants.{Syntax, Profile, Limit}
use Rattle.ir_parse_parts.specs.declared.fault.TokenFault.{TokenFault}
use Rattle.ir_parse_operands.specs.Addressing.{any_slots}
use Rattle.ir_parse_heads.specs.AttributesAt.{definition_attributes_at}
use Rattle.ir_parse_parts.specs.Classes.{NUMERALS, itself, one_of, one_of_at, refusal, the, tokens}
use Rattle.ir_parse_heads.specs.FunctionHeads.{end_of_none}
use Rattle.ir_parse_heads.specs.FunctionHeadsAt.{end_of_none_at, head_at}
use Rattle.ir_parse_parts.specs.MetadataAt.{COMMA, PAREN}
use Rattle.ir_parse_parts.specs.Operands.{LOCAL, POINTER_OPERAND, REG, RESULT, named, operand_of, result, result_of, reg_of, type_refusal}
use Rattle.ir_parse_parts.specs.OperandsAt.{local_at, result_at}
use Rattle.ir_parse_operands.specs.ShapeForms.{any_shape}
use Rattle.ir_parse_operands.specs.ValuesAt.{ADDRESS, address_at}
use Rattle.ir_parse_heads.specs.declared.function_heads.Role.TheVariants as roles
use Rattle.ir_parse_operands.specs.Terminators.{ENDS}
use Rattle.ir_parse_parts.specs.declared.places.Before.TheVariants as befores
use Rattle.ir_parse_parts.specs.declared.places.Before.{Before}
use Rattle.ir_parse_parts.specs.declared.places.Position.{Position}
use Rattle.ir_parse_parts.specs.declared.raw.Item.{Item}
use Rattle.ir_parse_parts.specs.declared.raw.WrittenLine.{WrittenLine}
use Rattle.ir_parse_parts.specs.declared.raw.Operand.{Operand}
use Rattle.ir_parse_heads.proofs.AttributeRules.{definition_attributes_rule}
use Rattle.ir_parse_heads.proofs.FunctionHeadRules.{head_rule}
use Rattle.ir_parse_parts.proofs.OperandRules.{result_rule, type_not_limit, type_not_number}
use Rattle.ir_parse_parts.proofs.Singles.{close_paren_real, close_paren_rule, equals_rule, mark, not_limit, not_number, one_rule, open_brace_rule, open_paren_rule, sample, word}
use Rattle.ir_parse_operands.proofs.TerminatorRules.{terminator_rule}
use Rattle.ir_parse_parts.proofs.Words.{int_32_real}
use Rattle.ir_parse_bodies.specs.Blocks.{FURTHER_BLOCKS, INSTRUCTIONS, LABEL, any_block, any_block_behind, any_label, any_lines, any_local, at_will, block, block_behind, block_of, keep, label, lines, with_kept}
use Rattle.ir_parse_bodies.specs.BlocksAt.{BLOCK, DEFINE, all_lines_at, block_at, block_behind_at, blocks_at, blocks_behind_at, defined_at, definition_at, further_blocks_at, label_at, lines_at}
use Rattle.ir_parse_bodies.specs.Calls.{conventions, listed_types, marker_refusal, some_types, types, written_type}
use Rattle.ir_parse_bodies.specs.CallsAt.{CONVENTIONS, MARKER, callee_at, calling_at, calling_with_at, conventions_at, listed_types_at, maybe_types_at, some_types_at, tail_calling_at, types_at, types_behind_at, unmarked_at, unmarked_value_at, written_type_at}
use Rattle.ir_parse_bodies.specs.Lines.{GIVING, line, lined, opcode_by, opcode_of}
use Rattle.ir_parse_bodies.specs.LinesAt.{LINE, behind_at, line_at, line_behind_at, named_line_at, plain_line_at}
use Rattle.ir_parse_bodies.specs.declared.opcodes.Opcode.TheVariants as opcodes
use Rattle.ir_parse_bodies.specs.declared.opcodes.Opcode.{Opcode}
use Rattle.ir_parse_bodies.proofs.BlockRules.{BEHIND_BLOCK}
use Rattle.ir_parse_bodies.proofs.CallRules.{BEHIND_CALL, convention_rule, further_type_rule}
use Rattle.ir_parse_bodies.proofs.LineRules.{any_name, line_rule, same_name}
use Rattle.ir_parse_bodies.proofs.LineRules as line_rules
use Rattle.ir_parse_bodies.proofs.Samples.{add_real, call_word_rule, define_word_rule, label_real}
use Rattle.ir_parse_globals.specs.Variables.{NAMES}
use Rattle.ir_parse_globals.specs.VariablesAt.{variable_line_at}
use Rattle.ir_parse.specs.ItemForms.{any_items, anywhere}
use Rattle.ir_parse.specs.ItemFormsAt.{DECLARE, NAMING, beginnings, begins_there, declaration_at, first_place, items_at, kept_at, named_at, named_within_at, naming_at, other_at, piece_at, there_at}
use Rattle.ir_parse.specs.Modules.{FURTHER_PARAMETERS, GLOBAL_NAMES, item_refusal, module_of}
use Rattle.ir_parse.proofs.ItemRules.{MORE, there_rule}
use Rattle.ir_parse.specs.NamedCalls.{before_callee, before_named_callee, in_block, in_blocks, in_definition, in_lines, in_module}
use Rattle.ir_parse.proofs.Exchanged.{differ, not_both}
use Rattle.ir_parse.proofs.Leads.{Leads, Opening, Reading, chain_leads, chain_opening, first_leads, leads_after, leads_behind, leads_one, leads_other, many_leads, opening_first, opening_within, reading, star_opening, successive_leads}

abbrev fine : Unit {0} → Result (Unit {0}) TokenFault
fine u = Ok u

same : (n m : ℕ) → nat_eq n m ≡ true → n ≡ m
same n m h = grind arith

is_marker : (t : Tok) → among tokens MARKER t ≡ true → number t.kind ≡ number kinds.LifetimeMarker
is_marker t e = by_test (nat_eq (number t.kind) (number kinds.LifetimeMarker)) refl e
  where
    by_test : (b : Bool) → nat_eq (number t.kind) (number kinds.LifetimeMarker) ≡ b → b || false ≡ true → number t.kind ≡ number kinds.LifetimeMarker
    by_test true p e = same (number t.kind) (number kinds.LifetimeMarker) p
    by_test false p e = absurd cc

marker_opens : Opening MARKER []
marker_opens t rest m = m

-- ---- what stands before the callee is read

conventions_reading : Reading conventions conventions_at CONVENTIONS CONVENTIONS true
unfolding conventions conventions_at
conventions_reading = reading (rules.seq tokens (rules.any_number tokens CONVENTIONS convention_rule refl refl) (λ _. rules.nothing tokens tt) refl)

written_type_rule : Rule tokens written_type written_type written_type_at REG [] false
written_type_rule = rules.among_rule tokens type_refusal type_not_number type_not_limit REG itself (word kinds.MemoryInteger (codes "i32")) refl int_32_real

some_types_rule : Rule tokens some_types some_types some_types_at REG COMMA false
unfolding some_types some_types_at types_behind_at
some_types_rule = rules.seq tokens written_type_rule (λ first. rules.seq tokens (rules.any_number tokens COMMA further_type_rule refl refl) (λ _. rules.nothing tokens _) refl) refl

end_of_none_rule : Rule tokens end_of_none end_of_none end_of_none_at (number kinds.CloseParen ∷ []) [] false
unfolding is_class
end_of_none_rule = rules.class_rule tokens type_refusal type_not_number type_not_limit (number kinds.CloseParen) (mark kinds.CloseParen (codes ")")) refl close_paren_real

listed_types_rule : Rule tokens listed_types listed_types listed_types_at (number kinds.CloseParen ∷ REG) [] false
unfolding listed_types listed_types_at
listed_types_rule = rules.broader tokens (number kinds.CloseParen ∷ REG) [] (rules.alt tokens REG (rules.seq tokens some_types_rule (λ _. rules.seq tokens close_paren_rule (λ _. rules.nothing tokens _) refl) refl) (rules.seq tokens end_of_none_rule (λ _. rules.nothing tokens _) refl) refl refl) refl refl

types_rule : Rule tokens types types types_at PAREN [] false
unfolding types types_at
types_rule = rules.seq tokens open_paren_rule (λ _. listed_types_rule) refl

maybe_types_reading : Reading (form.optional types) maybe_types_at PAREN PAREN true
maybe_types_reading = reading (rules.maybe tokens PAREN types_rule refl)

-- ---- the callee

abbrev value_at : Reader Tok Operand
value_at = unmarked_at

marker_refused : (t : Tok) (rest : List Tok) → among tokens MARKER t ≡ true → unmarked_at (t ∷ rest) ≡ fault_at Syntax (t ∷ rest)
unfolding is_valued
marker_refused t rest m = ap (λ (n : ℕ). token_means t rest (cond (contains POINTER_OPERAND n) (in_range (operand_of Ptr t)) (Err (marker_refusal n)))) (is_marker t m)

callee_leads : Leads (callee_at true None) []
unfolding unmarked_value_at
callee_leads = first_leads (pick (among tokens ADDRESS) address_at unmarked_at) _ [] (leads_other ADDRESS MARKER refl address_at unmarked_at [] marker_opens (record { ends = λ t rest m. inl (marker_refused t rest m) }))

-- a token that gives no result is `void`
void_result : (ts : List Tok) → the kinds.Void ts tt → result ts None
unfolding is_class is_among
void_result [] s = absurd s
void_result (t ∷ []) s = by_test (nat_eq (number t.kind) (number kinds.Void)) refl s
  where
    by_test : (b : Bool) → nat_eq (number t.kind) (number kinds.Void) ≡ b → cond b (Ok tt) (Err (refusal (number t.kind))) ≡ fine tt → is_among tokens type_refusal RESULT result_of t ≡ Ok None
    by_test true e s = ap (λ (b : Bool). cond b (Ok (result_of t)) (Err (type_refusal (number t.kind)))) (ap (contains RESULT) (same (number t.kind) (number kinds.Void) e)) ∙ ap (λ (b : Bool). Ok (cond b None (Some (reg_of t)))) e
    by_test false e s = absurd cc
void_result (t ∷ u ∷ ts) s = absurd s

void_opens : (one two : List Tok) → the kinds.Void one tt → Opening (number kinds.Void ∷ []) (one ++ two)
unfolding is_class
void_opens [] two s = absurd s
void_opens (t ∷ []) two s = λ _ _ _. by_test (nat_eq (number t.kind) (number kinds.Void)) s
  where
    by_test : (b : Bool) → cond b (fine tt) (Err (refusal (number t.kind))) ≡ fine tt → b || false ≡ true
    by_test true s = refl
    by_test false s = absurd cc
void_opens (t ∷ u ∷ one) two s = absurd s

calling_leads : (front : List Tok) → before_callee front tt → Leads (calling_at true) front
unfolding before_callee form.◌>>=◌ calling_at
calling_leads front (one, two, _, e, s, (one', two', _, e', s', (one'', two'', ws, e'', s'', n))) =
    let to_callee : Leads (maybe_types_at >>= λ ws. callee_at true None >>= λ f. calling_with_at None ws f) (one'' ++ []) = leads_behind _ maybe_types_reading one'' [] ws s'' (first_leads (callee_at true None) _ [] callee_leads) MARKER refl marker_opens in
    let types_too : one'' ++ [] ≡ two' = ap (λ (ts : List Tok). one'' ++ ts) (sym n.0) ∙ sym e'' in
    let to_types = subst (Leads (maybe_types_at >>= λ ws. callee_at true None >>= λ f. calling_with_at None ws f)) types_too to_callee in
    let to_result = leads_after _ (reading result_rule) one' two' None (void_result one' s') to_types in
    let result_too : Leads (result_at >>= λ r. maybe_types_at >>= λ ws. callee_at true r >>= λ f. calling_with_at r ws f) two = subst (Leads (result_at >>= λ r. maybe_types_at >>= λ ws. callee_at true r >>= λ f. calling_with_at r ws f)) (sym e') to_result in
    subst (Leads (conventions_at >>= λ _. result_at >>= λ r. maybe_types_at >>= λ ws. callee_at true r >>= λ f. calling_with_at r ws f)) (sym e) (leads_behind _ conventions_reading one two tt s result_too (number kinds.Void ∷ []) refl (subst (Opening (number kinds.Void ∷ [])) (sym e') (void_opens one' two' s')))

tail_calling_leads : (front : List Tok) → form.◌>>=◌ (the kinds.Call) (λ _. before_callee) front tt → Leads (tail_calling_at true) front
unfolding form.◌>>=◌ tail_calling_at
tail_calling_leads front (one, two, _, e, s, v) = subst (Leads (tail_calling_at true)) (sym e) (leads_after _ (reading call_word_rule) one two tt s (calling_leads two v))

-- ---- lines

good_is : (h : TokenKind) (wanted : TokenKind) → contains GIVING (number wanted) ≡ true → nat_eq (number h) (number wanted) ≡ true → contains GIVING (number h) ≡ true
good_is h wanted g e = ap (contains GIVING) (same (number h) (number wanted) e) ∙ g

tail_opcode : (h : TokenKind) → nat_eq (number h) (number kinds.TailMark) ≡ true → opcode_by h ≡ opcodes.Tail
tail_opcode kinds.TailMark e = refl
tail_opcode h e = absurd (differ e)

call_opcode : (h : TokenKind) → nat_eq (number h) (number kinds.Call) ≡ true → opcode_by h ≡ opcodes.Call
call_opcode kinds.Call e = refl
call_opcode h e = absurd (differ e)

abbrev given : Opcode → Result Opcode TokenFault
given o = Ok o

-- a first word of this class is read as this instruction
opcode_read : (wanted : TokenKind) (o : Opcode) → contains GIVING (number wanted) ≡ true → ((h : TokenKind) → nat_eq (number h) (number wanted) ≡ true → opcode_by h ≡ o) → (ts : List Tok) → the wanted ts tt → one_of GIVING opcode_of ts o
unfolding is_class is_among
opcode_read wanted o g means [] s = absurd s
opcode_read wanted o g means (t ∷ []) s = by_test (nat_eq (number t.kind) (number wanted)) refl s
  where
    by_test : (b : Bool) → nat_eq (number t.kind) (number wanted) ≡ b → cond b (fine tt) (Err (refusal (number t.kind))) ≡ fine tt → cond (among tokens GIVING t) (given (opcode_of t)) (Err (refusal (number t.kind))) ≡ given o
    by_test true e s = ap (λ (b : Bool). cond b (given (opcode_of t)) (Err (refusal (number t.kind)))) (good_is t.kind wanted g e) ∙ ap given (means t.kind e)
    by_test false e s = absurd (not_both _ _ (sym s))
opcode_read wanted o g means (t ∷ u ∷ ts) s = absurd s

abbrev behind_name : Tok → Reader Tok (Option WrittenLine)
behind_name name = one_of_at GIVING opcode_of >>= λ o. behind_at true o >>= λ i. done (lined (Some name) name.line i)

opcodes_reading : Reading (one_of GIVING opcode_of) (one_of_at GIVING opcode_of) GIVING [] false
opcodes_reading = reading (one_rule GIVING opcode_of (word kinds.Add (codes "add")) refl add_real)

instruction_leads : (name : Tok) (front : List Tok) → form.◌>>=◌ (form.optional (the kinds.TailMark)) (λ _. form.◌>>=◌ (the kinds.Call) (λ _. before_callee)) front tt → Leads (behind_name name) front
unfolding form.◌>>=◌ form.either
instruction_leads name front (one, two, _, e, inl (p, q, _, e', s, n), v) =
    let only : one ≡ p = e' ∙ ap (λ (ts : List Tok). p ++ ts) n.0 ∙ append-nil p in
    subst (Leads (behind_name name)) (sym (e ∙ ap (λ (ts : List Tok). ts ++ two) only))
    (leads_after (λ o. behind_at true o >>= λ i. done (lined (Some name) name.line i)) opcodes_reading p two opcodes.Tail (opcode_read kinds.TailMark opcodes.Tail refl tail_opcode p s) (first_leads (tail_calling_at true) (λ i. done (lined (Some name) name.line i)) two (tail_calling_leads two v)))
instruction_leads name front (one, two, _, e, inr n, (p, q, _, e', s, v)) =
    let only : front ≡ p ++ q = e ∙ ap (λ (ts : List Tok). ts ++ two) n.0 ∙ e' in
    subst (Leads (behind_name name)) (sym only)
    (leads_after (λ o. behind_at true o >>= λ i. done (lined (Some name) name.line i)) opcodes_reading p q opcodes.Call (opcode_read kinds.Call opcodes.Call refl call_opcode p s) (first_leads (calling_at true) (λ i. done (lined (Some name) name.line i)) q (calling_leads q v)))

local_reading : Reading any_local local_at LOCAL [] false
local_reading = record { broad = rules.any_broad tokens refusal LOCAL named itself same_name refl }

named_line_leads : (front : List Tok) → before_named_callee front tt → Leads named_line_at front
unfolding before_named_callee form.◌>>=◌ named_line_at line_behind_at
named_line_leads front (one, two, name, e, s, (one', two', _, e', s', v)) =
    subst (Leads named_line_at) (sym e)
    (leads_after line_behind_at local_reading one two name s (subst (Leads (line_behind_at name)) (sym e') (leads_after (λ _. behind_name name) (reading equals_rule) one' two' tt s' (instruction_leads name two' v))))

name_opens : (front : List Tok) → before_named_callee front tt → Opening LOCAL front
unfolding before_named_callee form.◌>>=◌
name_opens front (one, two, name, e, s, v) = subst (Opening LOCAL) (sym e) (opening_first local_reading one two name s)

line_leads : (front : List Tok) → before_named_callee front tt → Leads line_at front
unfolding line_at
line_leads front v = leads_one LOCAL named_line_at plain_line_at front (name_opens front v) (named_line_leads front v)

line_reading : Reading (line any_local any_slots any_shape) line_at LINE BEHIND_CALL false
line_reading = reading line_rule

line_opens : (front : List Tok) → before_named_callee front tt → Opening LINE front
line_opens front v = opening_within LOCAL LINE refl front (name_opens front v)

-- ---- blocks

lines_leads : (room : ℕ) (front : List Tok) → in_lines front tt → Leads (lines_at room) front
unfolding in_lines form.◌>>=◌ lines_at
lines_leads room front (one, two, ls, e, s, v) = subst (Leads (lines_at room)) (sym e) (first_leads (all_lines_at room) _ (one ++ two) (many_leads LINE line_reading refl refl room ls one two s (line_opens two v) (line_leads two v)))

lines_open : (front : List Tok) → in_lines front tt → Opening LINE front
unfolding in_lines form.◌>>=◌
lines_open front (one, two, ls, e, s, v) = subst (Opening LINE) (sym e) (star_opening LINE line_reading refl refl ls one two s (line_opens two v))

block_behind_leads : (room : ℕ) (name : Option Tok) (front : List Tok) → in_lines front tt → Leads (block_behind_at room name) front
unfolding block_behind_at
block_behind_leads room name front v = first_leads (lines_at room) _ front (lines_leads room front v)

label_reading : Reading any_label label_at LABEL [] false
label_reading = record { broad = rules.any_broad tokens refusal LABEL named itself same_name refl }

block_leads : (room : ℕ) (front : List Tok) → in_block front tt → Leads (block_at room) front
unfolding in_block form.◌>>=◌ form.either block_at
block_leads room front (one, two, _, e, inl (p, q, l, e', s, n), v) =
    let only : one ≡ p = e' ∙ ap (λ (ts : List Tok). p ++ ts) n.0 ∙ append-nil p in
    subst (Leads (block_at room)) (sym (e ∙ ap (λ (ts : List Tok). ts ++ two) only))
    (leads_one LABEL (label_at >>= λ l. block_behind_at room (Some l)) (block_behind_at room None) (p ++ two) (opening_first label_reading p two l s) (leads_after (λ l. block_behind_at room (Some l)) label_reading p two l s (block_behind_leads room (Some l) two v)))
block_leads room front (one, two, _, e, inr n, v) =
    subst (Leads (block_at room)) (sym (e ∙ ap (λ (ts : List Tok). ts ++ two) n.0)) (leads_other LABEL LINE refl (label_at >>= λ l. block_behind_at room (Some l)) (block_behind_at room None) two (lines_open two v) (block_behind_leads room None two v))

block_opens : (front : List Tok) → in_block front tt → Opening BLOCK front
unfolding in_block form.◌>>=◌ form.either
block_opens front (one, two, _, e, inl (p, q, l, e', s, n), v) = subst (λ (ts : List Tok). Opening BLOCK ts) (sym (e ∙ ap (λ (ts : List Tok). ts ++ two) (e' ∙ ap (λ (ts : List Tok). p ++ ts) n.0 ∙ append-nil p))) (opening_within LABEL BLOCK refl (p ++ two) (opening_first label_reading p two l s))
block_opens front (one, two, _, e, inr n, v) = subst (λ (ts : List Tok). Opening BLOCK ts) (sym (e ∙ ap (λ (ts : List Tok). ts ++ two) n.0)) (opening_within LINE BLOCK refl two (lines_open two v))

-- whole blocks before it are read
abbrev zero_label : Tok
zero_label = sample forms.Label kinds.Label (codes "0:")

zero_named : named zero_label ≡ Some zero_label
unfolding named
zero_named = refl

is_label : (t : Tok) → among tokens LABEL t ≡ true → number t.kind ≡ number kinds.Label
is_label t e = by_test (nat_eq (number t.kind) (number kinds.Label)) refl e
  where
    by_test : (b : Bool) → nat_eq (number t.kind) (number kinds.Label) ≡ b → b || false ≡ true → number t.kind ≡ number kinds.Label
    by_test true p e = same (number t.kind) (number kinds.Label) p
    by_test false p e = absurd cc

label_rule : Rule tokens label any_label label_at LABEL [] false
label_rule = record { law = with_wide tokens (rules.valued_rule tokens refusal not_number not_limit LABEL named (λ t p q. record { writes = ap (contains NUMERALS) (is_label t p); other = zero_label; means = zero_label; alike = sym (is_label t p); has = zero_named; real = label_real }) zero_label zero_label refl zero_named label_real).law (λ ts a s. any_name LABEL ts a s) label_reading.broad }

lines_rule : (room : ℕ) → Rule tokens (lines room) (any_lines room) (lines_at room) LINE (BEHIND_CALL ++ LINE) true
unfolding lines any_lines lines_at
lines_rule room = rules.seq tokens (rules.many tokens LINE room line_rule line_rules.line_opens refl refl) (λ ls. rules.nothing tokens (fold keep [] ls, room - length ls)) refl

block_behind_rule : (room : ℕ) (name : Option Tok) → Rule tokens (block_behind room name) (any_block_behind room name) (block_behind_at room name) (LINE ++ ENDS) BEHIND_BLOCK false
unfolding block_behind any_block_behind block_behind_at
block_behind_rule room name = rules.seq tokens (lines_rule room) (λ ls. rules.seq tokens terminator_rule (λ e. rules.nothing tokens (block_of name ls.0 e, ls.1)) refl) refl

block_reading : (room : ℕ) → Reading (any_block room) (block_at room) BLOCK BEHIND_BLOCK false
unfolding block any_block block_at
block_reading room = reading (rules.broader tokens BLOCK BEHIND_BLOCK (rules.alt tokens LABEL (rules.seq tokens label_rule (λ l. block_behind_rule room (Some l)) refl) (block_behind_rule room None) refl refl) refl refl)

blocks_leads : (further instructions : ℕ) (front : List Tok) → in_blocks instructions front tt → Leads (blocks_at further instructions) front
unfolding in_blocks form.◌>>=◌ blocks_at blocks_behind_at
blocks_leads further instructions front (one, two, [], e, c, v) = subst (Leads (blocks_at further instructions)) (sym (e ∙ ap (λ (ts : List Tok). ts ++ two) c.1)) (first_leads (block_at instructions) _ two (block_leads instructions two v))
blocks_leads further instructions front (one, two, b ∷ bs, e, (p, q, next, e', r, c), v) =
    let whole : front ≡ p ++ (q ++ two) = e ∙ ap (λ (ts : List Tok). ts ++ two) e' ∙ append_assoc p q two in
    let more : Leads (further_blocks_at further next) (q ++ two) = successive_leads at_will BLOCK block_reading refl refl further next bs q two c (block_opens two v) (λ room. block_leads room two v) in
    subst (Leads (blocks_at further instructions)) (sym whole)
    (leads_behind (λ first. blocks_behind_at further first.1 first.0) (block_reading instructions) p (q ++ two) (b, next) r (first_leads (further_blocks_at further next) (λ more. done (b ∷ more)) (q ++ two) more) BLOCK refl (chain_opening at_will BLOCK block_reading refl refl next bs q two c (block_opens two v)))

-- ---- definitions

definition_leads : (room : ℕ) (front : List Tok) → in_definition front tt → Leads (definition_at room) front
unfolding in_definition form.◌>>=◌ definition_at
definition_leads room front (one, two, _, e, s, (one', two', h, e', s', (one'', two'', k, e'', s'', (p, q, _, e''', r, v)))) =
    let braced : Leads (defined_at (with_kept h k)) two'' = subst (Leads (defined_at (with_kept h k))) (sym e''') (leads_after _ (reading open_brace_rule) p q tt r (first_leads (blocks_at FURTHER_BLOCKS INSTRUCTIONS) _ q (blocks_leads FURTHER_BLOCKS INSTRUCTIONS q v))) in
    let opens : Opening (number kinds.OpenBrace ∷ []) two'' = subst (Opening (number kinds.OpenBrace ∷ [])) (sym e''') (opening_first (reading open_brace_rule) p q tt r) in
    let attributed : Leads (definition_attributes_at >>= λ k. defined_at (with_kept h k)) two' = subst (Leads (definition_attributes_at >>= λ k. defined_at (with_kept h k))) (sym e'') (leads_behind (λ k. defined_at (with_kept h k)) (reading definition_attributes_rule) one'' two'' k s'' braced (number kinds.OpenBrace ∷ []) refl opens) in
    let headed : Leads (head_at roles.Definition room >>= λ h. definition_attributes_at >>= λ k. defined_at (with_kept h k)) two = subst (Leads (head_at roles.Definition room >>= λ h. definition_attributes_at >>= λ k. defined_at (with_kept h k))) (sym e') (leads_after (λ h. definition_attributes_at >>= λ k. defined_at (with_kept h k)) (reading (head_rule roles.Definition room)) one' two' h s' attributed) in
    subst (Leads (definition_at room)) (sym e) (leads_after (λ _. head_at roles.Definition room >>= λ h. definition_attributes_at >>= λ k. defined_at (with_kept h k)) (reading define_word_rule) one two tt s headed)

definition_opens : (front : List Tok) → in_definition front tt → Opening DEFINE front
unfolding in_definition form.◌>>=◌
definition_opens front (one, two, _, e, s, v) = subst (Opening DEFINE) (sym e) (opening_first (reading define_word_rule) one two tt s)

-- ---- modules

naming_leads : (room : ℕ) (front : List Tok) → in_definition front tt → Leads (naming_at room) front
unfolding kept_at
naming_leads room front v =
    let kept_one : Leads (kept_at (definition_at room)) front = first_leads (definition_at room) _ front (definition_leads room front v) in
    let opens = definition_opens front v in
    leads_other NAMES DEFINE refl (kept_at variable_line_at) _ front opens (leads_other DECLARE DEFINE refl (declaration_at room) (kept_at (definition_at room)) front opens kept_one)

-- a limit is past before
limit_leads : (front : List Tok) → Leads {A = Option Item × Position} (fault_at Limit) front
limit_leads [] = record { ends = λ t rest m. limit_up t rest (fault_at Limit (t ∷ rest)) (fault_at Syntax (t ∷ rest)) refl }
limit_leads (v ∷ front) = record { ends = λ t rest m. limit_up v (front ++ t ∷ rest) (fault_at Limit (v ∷ (front ++ t ∷ rest))) (fault_at Syntax (t ∷ rest)) refl }

named_within_leads : (room names : ℕ) (front : List Tok) → in_definition front tt → (b : Bool) → Leads (cond b (fault_at Limit) (named_at room names)) front
unfolding named_at
named_within_leads room names front v true = limit_leads front
named_within_leads room names front v false = first_leads (naming_at room) _ front (naming_leads room front v)

there_leads : (room : ℕ) (front : List Tok) → in_definition front tt → (at : Position) → Leads (there_at room at) front
unfolding piece_at
there_leads room front v at = leads_one NAMING (named_within_at room at.names) (other_at at.before at.names) front (opening_within DEFINE NAMING refl front (definition_opens front v)) (named_within_leads room at.names front v (nat_eq at.names 0))

define_there : (before : Before) → subset DEFINE (beginnings before) ≡ true
define_there befores.Item = refl
define_there befores.Declaration = refl
define_there befores.Name = refl

apart_there : (before : Before) → disjoint MORE (beginnings before) ≡ true
apart_there befores.Item = refl
apart_there befores.Declaration = refl
apart_there befores.Name = refl

items_leads : (room names : ℕ) (front : List Tok) → form.◌>>=◌ (any_items names) (λ _. in_definition) front tt → Leads (items_at room names) front
unfolding any_items form.◌>>=◌ items_at
items_leads room names front (one, two, _, e, (p, q, all, e', c, n), v) =
    let whole : front ≡ p ++ two = e ∙ ap (λ (ts : List Tok). ts ++ two) (e' ∙ ap (λ (ts : List Tok). p ++ ts) n.0 ∙ append-nil p) in
    subst (Leads (items_at room names)) (sym whole) (first_leads (chain_at anywhere begins_there (there_at room) (first_place names)) _ (p ++ two) (record { ends = λ t rest m. (all_leads (suc (length ((p ++ two) ++ t ∷ rest))) (omega (arith, length-append (p ++ two) (t ∷ rest), length-append p two))).ends t rest m }))
  where
    all_leads : (n : ℕ) → length p < n → Leads (chain_within anywhere begins_there (there_at room) n (first_place names)) (p ++ two)
    all_leads n lt = chain_leads anywhere (λ at. beginnings at.before) (λ at. reading (there_rule room at)) (λ at. apart_there at.before) DEFINE (λ at. define_there at.before) n (first_place names) all p two lt c (definition_opens two v) (λ at. there_leads room two v at)

-- there a lifetime marker isn't told to be left out
pub never_left_out : (front : List Tok) (t : Tok) (rest : List Tok) → in_module front tt → among tokens MARKER t ≡ true → module_of (front ++ t ∷ rest) ≡ Err (record { left = length (t ∷ rest); kind = Profile }) → ⊥
unfolding in_module module_of
never_left_out front t rest v m e = by_result (items_at FURTHER_PARAMETERS GLOBAL_NAMES (front ++ t ∷ rest)) ((items_leads FURTHER_PARAMETERS GLOBAL_NAMES front v).ends t rest m) e
  where
    differ : Syntax ≡ Profile → ⊥
    differ e = cc

    by_result : (r : Result (List Item × List Tok) Fault) → UpTo tokens (front ++ t ∷ rest) r (fault_at Syntax (t ∷ rest)) → whole_of item_refusal r ≡ wrong (record { left = length (t ∷ rest); kind = Profile }) → ⊥
    by_result r (inl q) e = differ (ap (λ (x : Fault). x.kind) (wrong_is {X = List Item} (record { left = length (t ∷ rest); kind = Syntax }) (record { left = length (t ∷ rest); kind = Profile }) (sym (ap (whole_of item_refusal) q) ∙ e)))
    by_result r (inr w) e = subst IsBound (ap (λ (x : Fault). x.kind) (wrong_is {X = List Item} (record { left = length (w.bad ∷ w.rest); kind = w.kind }) (record { left = length (t ∷ rest); kind = Profile }) (sym (ap (whole_of item_refusal) w.ends) ∙ e))) w.bound
