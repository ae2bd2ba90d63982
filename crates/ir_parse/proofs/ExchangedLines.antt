-- The readers of lines tell a token that is left out in some places where one that it stands for goes on.
use Rattle.std.proofs.Common.{◌≡◌, nat_eq, Bool, true, false, cond, Some, None, List, [], ◌∷◌, Result, Ok, Err, refl, sym, ap, subst, ◌∙◌, inl, inr}
use Rattle.std.specs.Prelude.{codes}
use Rattle.ir_lex.specs.TokenKinds.{number}
use Rattle.ir_lex.specs.Tok.{Tok}
use Rattle.ir_lex.specs.declared.token_kind.TokenKind.TheVariants as kinds
use Rattle.ir_lex.specs.declared.token_kind.TokenKind.{TokenKind}
use Rattle.ir_parse_parts.specs.Alphabet.{among, contains}
use Rattle.ir_parse_parts.specs.Forms as form
use Rattle.ir_parse_parts.specs.Rules.{is_among, is_class}
use Rattle.ir_parse_parts.specs.declared.fault.TokenFault.{TokenFault}
use Rattle.ir_parse_operands.specs.Addressing.{any_slots}
use Rattle.ir_parse_parts.specs.Classes.{one_of, refusal, the, tokens}
use Rattle.ir_parse_parts.specs.Operands.{LOCAL, named}
use Rattle.ir_parse_parts.specs.OperandsAt.{local_at}
use Rattle.ir_parse_operands.specs.ShapeForms.{any_shape}
use Rattle.ir_parse_parts.proofs.Singles.{word}
use Rattle.ir_parse_bodies.specs.Blocks.{any_local}
use Rattle.ir_parse_bodies.specs.Calls.{calling, tail_calling}
use Rattle.ir_parse_bodies.specs.CallsAt.{calling_at, tail_calling_at}
use Rattle.ir_parse_bodies.specs.Lines.{GIVING, OPCODES, opcode_by, opcode_of, begun_of, operation, attended, kept, behind, lined, line_behind, named_line, plain_line, line}
use Rattle.ir_parse_bodies.specs.LinesAt.{operation_at, attended_at, some_at, behind_at, line_behind_at, named_line_at, plain_line_at, line_at}
use Rattle.ir_parse_bodies.specs.declared.opcodes.Opcode.TheVariants as opcodes
use Rattle.ir_parse_bodies.specs.declared.opcodes.Opcode.{Opcode}
use Rattle.ir_parse_bodies.specs.declared.opcodes.Operation.TheVariants as operations
use Rattle.ir_parse_bodies.specs.declared.opcodes.Operation.{Operation}
use Rattle.ir_parse_bodies.proofs.LineRules.{any_name}
use Rattle.ir_parse_bodies.proofs.Samples.{add_real}
use Rattle.ir_parse.specs.NamedCalls.{before_callee, before_named_callee}
use Rattle.ir_parse.proofs.Exchanged.{differ, not_both, Exchanges, Exchanging, Place, Swapping, alt_by, loosened, nothing, nowhere, placed_none, placed_too, recast, seq, seq_into, seq_to, with_value}
use Rattle.ir_parse.proofs.ExchangedAddressing.{addressing_exchanged, reserving_exchanged}
use Rattle.ir_parse.proofs.ExchangedCalls.{call_word_exchanged, named_calling_exchanged, unnamed_calling_exchanged}
use Rattle.ir_parse.proofs.ExchangedInstructions.{casting_exchanged, comparing_exchanged, dividing_exchanged, extending_exchanged, freezing_exchanged, joining_exchanged, narrowing_exchanged, on_two_exchanged, selecting_exchanged, wrapping_exchanged}
use Rattle.ir_parse.proofs.ExchangedMemory.{loading_exchanged, storing_exchanged}
use Rattle.ir_parse.proofs.ExchangedNodes.{attachments_exchanged}
use Rattle.ir_parse.proofs.ExchangedOperands.{local_exchanged}
use Rattle.ir_parse.proofs.ExchangedPhis.{phi_exchanged}
use Rattle.ir_parse.proofs.ExchangedTokens.{one_sample}
use Rattle.ir_parse.proofs.ExchangedWords.{equals_exchanged}

abbrev fine : Unit {0} → Result (Unit {0}) TokenFault
fine u = Ok u

abbrev failed : TokenFault → Result (Unit {0}) TokenFault
failed k = Err k

abbrev good : Opcode → Result Opcode TokenFault
good o = Ok o

any_local_exchanged : Exchanges any_local local_at
any_local_exchanged = recast (λ ts a s. any_name LOCAL ts a s) local_exchanged

pub operation_exchanged : (o : Operation) → Exchanges (operation any_shape o) (operation_at o)
operation_exchanged (operations.Wrapping op) = wrapping_exchanged op
operation_exchanged (operations.Dividing op) = dividing_exchanged op
operation_exchanged (operations.Plain op) = on_two_exchanged op _
operation_exchanged operations.Or = joining_exchanged
operation_exchanged operations.Icmp = comparing_exchanged
operation_exchanged operations.Zext = extending_exchanged _
operation_exchanged operations.Sext = casting_exchanged _
operation_exchanged operations.Trunc = narrowing_exchanged _
operation_exchanged operations.Select = selecting_exchanged
operation_exchanged operations.Freeze = freezing_exchanged

-- a lifetime marker is told against the syntax as the callee of a void call that has a name
abbrev pub behind_place : Bool → Opcode → Place
behind_place true opcodes.Tail = form.◌>>=◌ (the kinds.Call) (λ _. before_callee)
behind_place true opcodes.Call = before_callee
behind_place named o = nowhere

calling_exchanged : (named : Bool) → Swapping true (behind_place named opcodes.Call) (calling any_shape named) (calling_at named)
calling_exchanged true = named_calling_exchanged
calling_exchanged false = unnamed_calling_exchanged

tail_calling_exchanged : (named : Bool) → Swapping true (behind_place named opcodes.Tail) (tail_calling any_shape named) (tail_calling_at named)
unfolding tail_calling tail_calling_at
tail_calling_exchanged true = seq_to call_word_exchanged (λ _. named_calling_exchanged)
tail_calling_exchanged false = seq_into call_word_exchanged (λ _. unnamed_calling_exchanged)

pub behind_exchanged : (named : Bool) (o : Opcode) → Swapping true (behind_place named o) (behind any_slots any_shape named o) (behind_at named o)
unfolding attended attended_at kept some_at
behind_exchanged named (opcodes.Value o) = placed_none (loosened (seq (operation_exchanged o) (λ i. seq attachments_exchanged (λ _. nothing (Some i)))))
behind_exchanged named opcodes.Phi = placed_none (loosened (seq phi_exchanged (λ i. nothing (Some i))))
behind_exchanged named opcodes.Alloca = placed_none (loosened (seq reserving_exchanged (λ i. nothing (Some i))))
behind_exchanged named opcodes.Load = placed_none (loosened (seq loading_exchanged (λ i. nothing (Some i))))
behind_exchanged named opcodes.GetElementPtr = placed_none (loosened (seq addressing_exchanged (λ i. nothing (Some i))))
behind_exchanged named opcodes.Store = placed_none (loosened (seq storing_exchanged (λ i. nothing (Some i))))
behind_exchanged named opcodes.Tail = tail_calling_exchanged named
behind_exchanged named opcodes.Call = calling_exchanged named

-- [tail] call, by its first word
abbrev call_place : Place
call_place = form.◌>>=◌ (form.optional (the kinds.TailMark)) (λ _. form.◌>>=◌ (the kinds.Call) (λ _. before_callee))

opcode_place : (t : Tok) (ts : List Tok) → among tokens GIVING t ≡ true → behind_place true (opcode_of t) ts tt → call_place (t ∷ ts) tt
unfolding is_class form.◌>>=◌ form.either
opcode_place t ts e v = by_head t.kind refl e v
  where
    is_mark : (h : TokenKind) → t.kind ≡ h → nat_eq (number h) (number kinds.TailMark) ≡ true → the kinds.TailMark (t ∷ []) tt
    is_mark h p q = ap (λ (k : TokenKind). cond (nat_eq (number k) (number kinds.TailMark)) (fine tt) (failed (refusal (number k)))) p ∙ ap (λ (b : Bool). cond b (fine tt) (failed (refusal (number h)))) q

    is_call : (h : TokenKind) → t.kind ≡ h → nat_eq (number h) (number kinds.Call) ≡ true → the kinds.Call (t ∷ []) tt
    is_call h p q = ap (λ (k : TokenKind). cond (nat_eq (number k) (number kinds.Call)) (fine tt) (failed (refusal (number k)))) p ∙ ap (λ (b : Bool). cond b (fine tt) (failed (refusal (number h)))) q

    marked : the kinds.TailMark (t ∷ []) tt → form.◌>>=◌ (the kinds.Call) (λ _. before_callee) ts tt → call_place (t ∷ ts) tt
    marked s v = (t ∷ [], ts, Some tt, refl, inl (t ∷ [], [], tt, refl, s, (refl, refl)), v)

    plainly : the kinds.Call (t ∷ []) tt → before_callee ts tt → call_place (t ∷ ts) tt
    plainly s v = ([], t ∷ ts, None, refl, inr (refl, refl), (t ∷ [], ts, tt, refl, s, v))

    by_head : (h : TokenKind) → t.kind ≡ h → contains GIVING (number h) ≡ true → behind_place true (opcode_by h) ts tt → call_place (t ∷ ts) tt
    by_head kinds.TailMark p e v = marked (is_mark kinds.TailMark p refl) v
    by_head kinds.Call p e v = plainly (is_call kinds.Call p refl) v
    by_head kinds.Add p e v = absurd v
    by_head kinds.Sub p e v = absurd v
    by_head kinds.Mul p e v = absurd v
    by_head kinds.Shl p e v = absurd v
    by_head kinds.Udiv p e v = absurd v
    by_head kinds.Sdiv p e v = absurd v
    by_head kinds.Lshr p e v = absurd v
    by_head kinds.Ashr p e v = absurd v
    by_head kinds.Urem p e v = absurd v
    by_head kinds.Srem p e v = absurd v
    by_head kinds.And p e v = absurd v
    by_head kinds.Xor p e v = absurd v
    by_head kinds.Or p e v = absurd v
    by_head kinds.Icmp p e v = absurd v
    by_head kinds.Zext p e v = absurd v
    by_head kinds.Sext p e v = absurd v
    by_head kinds.Trunc p e v = absurd v
    by_head kinds.Select p e v = absurd v
    by_head kinds.Freeze p e v = absurd v
    by_head kinds.Phi p e v = absurd v
    by_head kinds.Alloca p e v = absurd v
    by_head kinds.Load p e v = absurd v
    by_head kinds.GetElementPtr p e v = absurd v
    by_head h p e v = absurd (differ e)

abbrev behind_equals : Place
behind_equals = form.◌>>=◌ (one_of GIVING opcode_of) (λ o. behind_place true o)

opcode_is : (o o' : Opcode) → good o ≡ good o' → o ≡ o'
opcode_is o o' q = cc

giving_place : (front : List Tok) → behind_equals front tt → call_place front tt
unfolding form.◌>>=◌ is_among
giving_place front ([], two, o, e, s, v) = absurd s
giving_place front (t ∷ u ∷ one, two, o, e, s, v) = absurd s
giving_place front (t ∷ [], two, o, e, s, v) = by_test (among tokens GIVING t) refl s
  where
    by_test : (b : Bool) → among tokens GIVING t ≡ b → cond b (good (opcode_of t)) (Err (refusal (number t.kind))) ≡ good o → call_place front tt
    by_test true q s = subst (λ (ts : List Tok). call_place ts tt) (sym e) (opcode_place t two q (subst (λ (x : Opcode). behind_place true x two tt) (sym (opcode_is (opcode_of t) o s)) v))
    by_test false q s = absurd (not_both _ _ (sym s))

pub line_behind_exchanged : (name : Tok) → Swapping true (form.◌>>=◌ (the kinds.Equals) (λ _. call_place)) (line_behind any_slots any_shape name) (line_behind_at name)
unfolding line_behind line_behind_at
line_behind_exchanged name = seq_to equals_exchanged (λ _. placed_too call_place giving_place (seq_to (one_sample GIVING opcode_of (word kinds.Add (codes "add")) refl add_real refl) (λ o. with_value (λ i. lined (Some name) name.line i) (behind_exchanged true o))))

pub named_line_exchanged : Swapping true before_named_callee (named_line any_local any_slots any_shape) named_line_at
unfolding named_line named_line_at before_named_callee
named_line_exchanged = seq_to any_local_exchanged line_behind_exchanged

unnamed_place : (o : Opcode) (front : List Tok) → behind_place false o front tt → ⊥
unnamed_place (opcodes.Value o) front v = v
unnamed_place opcodes.Phi front v = v
unnamed_place opcodes.Alloca front v = v
unnamed_place opcodes.Load front v = v
unnamed_place opcodes.GetElementPtr front v = v
unnamed_place opcodes.Store front v = v
unnamed_place opcodes.Tail front v = v
unnamed_place opcodes.Call front v = v

pub plain_line_exchanged : Exchanging true (plain_line any_slots any_shape) plain_line_at
unfolding plain_line plain_line_at
plain_line_exchanged = seq_into (one_sample OPCODES begun_of (word kinds.Add (codes "add")) refl add_real refl) (λ b. with_value (λ i. lined None b.line i) (placed_too nowhere (unnamed_place b.opcode) (behind_exchanged false b.opcode)))

pub line_exchanged : Swapping true before_named_callee (line any_local any_slots any_shape) line_at
unfolding line line_at
line_exchanged = alt_by before_named_callee LOCAL (inl refl) named_line_exchanged plain_line_exchanged (λ front v. v) (λ front v. absurd v)
