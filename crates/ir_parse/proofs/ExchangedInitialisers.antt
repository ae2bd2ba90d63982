-- The readers of initialisers tell a token that is left out in some places where one that it stands for goes on.
use Rattle.std.proofs.Common.{◌≡◌, ℕ, zero, suc, nat_eq, Bool, true, false, cond, ◌||◌, ◌&&◌, not, Option, Some, None, List, [], ◌∷◌, ◌++◌, length, Result, Ok, Err, refl, sym, ap, ◌∙◌, inl, inr, arith}
use Rattle.std.proofs.lemmas.List.{append-nil}
use Rattle.std.specs.Prelude.{codes}
use Rattle.ir_lex.specs.Bytes.{has}
use Rattle.ir_lex.specs.TokenKinds.{number, kind_of, word_kind, listed_kind, words_15}
use Rattle.ir_lex.specs.Lexing.{is_bad}
use Rattle.ir_lex.specs.Quotes.{is_zero_name}
use Rattle.ir_lex.specs.Rows.{best_fit, rest_fit, label_len, number_len, word_len, name_len, meta_len, dots_len, other_len, string_len}
use Rattle.ir_lex.specs.Tok.{Tok}
use Rattle.ir_lex.specs.declared.token_kind.TokenKind.TheVariants as kinds
use Rattle.ir_lex.specs.declared.token_kind.TokenKind.{TokenKind}
use Rattle.ir_lex.specs.declared.token.TokenForm.TheVariants as forms
use Rattle.ir_tree.specs.declared.operand.Reg.{Reg}
use Rattle.ir_parse_parts.proofs.Composed.{all_real, reads}
use Rattle.ir_parse_parts.specs.Alphabet.{among, contains, AllReal}
use Rattle.ir_parse_parts.specs.Chained.{Chain, chain_at, chain_within}
use Rattle.ir_parse_parts.specs.Forms as form
use Rattle.ir_parse_parts.specs.Readers.{Reader, done, fault_at, follow, ◌>>=◌, token_means, pick, next_is}
use Rattle.ir_parse_parts.specs.Rules.{is_class}
use Rattle.ir_parse_parts.specs.declared.fault.Fault.{Fault}
use Rattle.ir_parse_parts.specs.declared.fault.TokenFault.TheVariants.{Syntax, Profile, Limit}
use Rattle.ir_parse_parts.specs.declared.fault.TokenFault.{TokenFault}
use Rattle.ir_parse_parts.specs.Ahead.{BRACKETS}
use Rattle.ir_parse_parts.specs.Classes.{tokens, IsReal, refusal, the, the_at}
use Rattle.ir_parse_operands.specs.Extents.{left, shared, whole}
use Rattle.ir_parse_parts.specs.Operands.{memory_refusal}
use Rattle.ir_parse_operands.specs.ShapeForms.{any_shape, OPEN_BRACKET, OPEN_BRACE, OPEN_ANGLE}
use Rattle.ir_parse_operands.specs.ShapeFormsAt.{array_at, innermost_at, leaf_at, memory_shape_at, packed_at, shape_at, shape_over_at, structure_at}
use Rattle.ir_parse_operands.specs.declared.extents.Extent.{Extent}
use Rattle.ir_parse_operands.specs.declared.extents.Room.{Room}
use Rattle.ir_parse_parts.specs.declared.raw.InitHead.TheVariants as inits
use Rattle.ir_parse_parts.specs.declared.raw.InitPart.TheVariants as init_parts
use Rattle.ir_parse_parts.specs.declared.raw.InitPart.{InitPart}
use Rattle.ir_parse_parts.specs.declared.shape.Typed.{Typed}
use Rattle.ir_parse_operands.proofs.LeafRules.{LEAF}
use Rattle.ir_parse_parts.proofs.Singles.{sample, word, the_rule}
use Rattle.ir_parse_globals.specs.Initialisers.{BYTES, zeros, bytes, array_begin, structure_begin, packed_begin, aggregate_begin, beginning, aggregate_of, scalar_of, mark, angle, brace, closing, part_shape, part, begun, closed, piece, outermost, listed, is_none, parts, behind, initialiser, Spot, entered}
use Rattle.ir_parse_globals.specs.InitialisersAt.{ZEROS, zeros_at, bytes_at, array_begin_at, structure_begin_at, packed_begin_at, aggregate_begin_at, beginning_at, mark_at, angle_at, brace_at, closing_at, part_shape_at, part_at, begun_at, closed_at, CLOSER, piece_at, BEGINNINGS, begins_there, there_at, listed_at, parts_at, behind_at, initialiser_at, SHAPE}
use Rattle.ir_parse_globals.specs.declared.initialisers.Aggregate.TheVariants as aggregates
use Rattle.ir_parse_globals.specs.declared.initialisers.Aggregate.{Aggregate}
use Rattle.ir_parse_globals.proofs.InitialiserRules.{piece_rule}
use Rattle.ir_parse.proofs.Exchanged.{Exchanges, alt, fair, nothing, recast, same_reader, seq, taken, apart, passed}
use Rattle.ir_parse.proofs.ExchangedChains.{chain}
use Rattle.ir_parse.proofs.ExchangedConstants.{constant_exchanged}
use Rattle.ir_parse.proofs.ExchangedShapes.{memory_shape_exchanged, angle_and_brace, leaf_outside}
use Rattle.ir_parse.proofs.ExchangedTokens.{one_sample, plain_class}
use Rattle.ir_parse.proofs.ExchangedWords.{close_angle_exchanged, comma_exchanged, open_angle_exchanged, open_brace_exchanged, open_bracket_exchanged, close_brace_exchanged, close_bracket_exchanged}

bytes_real : IsReal (sample forms.CStr kinds.CStr (codes "c\"\""))
unfolding best_fit rest_fit label_len number_len word_len name_len meta_len dots_len other_len string_len has is_bad is_zero_name kind_of
bytes_real = record { behind = []; some = refl; fits = refl; good = refl; class = refl }

zeros_real : IsReal (word kinds.ZeroInitializer (codes "zeroinitializer"))
unfolding best_fit rest_fit label_len number_len word_len name_len meta_len dots_len other_len string_len has is_bad is_zero_name kind_of word_kind listed_kind words_15
zeros_real = record { behind = []; some = refl; fits = refl; good = refl; class = refl }

pub zeros_word_exchanged : Exchanges (the kinds.ZeroInitializer) (the_at kinds.ZeroInitializer)
unfolding is_class
zeros_word_exchanged = plain_class kinds.ZeroInitializer (the_rule kinds.ZeroInitializer (word kinds.ZeroInitializer (codes "zeroinitializer")) refl zeros_real) refl

pub zeros_exchanged : Exchanges zeros zeros_at
unfolding zeros zeros_at
zeros_exchanged = seq zeros_word_exchanged (λ _. nothing _)

pub bytes_exchanged : Exchanges bytes bytes_at
unfolding bytes bytes_at
bytes_exchanged = one_sample BYTES (λ t. inits.Bytes t) (sample forms.CStr kinds.CStr (codes "c\"\"")) refl bytes_real refl

pub aggregate_begin_exchanged : Exchanges aggregate_begin aggregate_begin_at
unfolding aggregate_begin aggregate_begin_at array_begin array_begin_at structure_begin structure_begin_at packed_begin packed_begin_at
aggregate_begin_exchanged = alt OPEN_BRACKET refl (seq open_bracket_exchanged (λ _. nothing inits.Array)) (alt OPEN_BRACE refl (seq open_brace_exchanged (λ _. nothing (inits.Struct false))) (angle_and_brace open_angle_exchanged (λ _ _. nothing (inits.Struct true))))

pub beginning_exchanged : (scalar : Option Reg) → Exchanges (beginning any_shape scalar) (beginning_at scalar)
unfolding beginning beginning_at
beginning_exchanged scalar = alt ZEROS refl zeros_exchanged (alt BYTES refl bytes_exchanged (alt BRACKETS refl aggregate_begin_exchanged (constant_exchanged scalar)))

pub bracket_exchanged : Exchanges (mark false kinds.CloseBracket) (mark_at false kinds.CloseBracket)
bracket_exchanged = close_bracket_exchanged

pub brace_mark_exchanged : Exchanges (mark false kinds.CloseBrace) (mark_at false kinds.CloseBrace)
brace_mark_exchanged = close_brace_exchanged

pub angle_exchanged : (packed : Bool) → Exchanges (angle packed) (angle_at packed)
angle_exchanged true = close_angle_exchanged
angle_exchanged false = nothing tt

pub brace_exchanged : (packed : Bool) → Exchanges (brace false packed) (brace_at false packed)
unfolding brace brace_at
brace_exchanged packed = seq brace_mark_exchanged (λ _. angle_exchanged packed)

pub closing_exchanged : (a : Aggregate) → Exchanges (closing false a) (closing_at false a)
closing_exchanged aggregates.Array = bracket_exchanged
closing_exchanged (aggregates.Struct packed) = brace_exchanged packed

pub part_shape_exchanged : (first : Bool) → Exchanges (part_shape any_shape first) (part_shape_at first)
part_shape_exchanged true = memory_shape_exchanged
part_shape_exchanged false = seq comma_exchanged (λ _. memory_shape_exchanged)

pub part_exchanged : (first : Bool) → Exchanges (part any_shape first) (part_at first)
unfolding part part_at
part_exchanged true = seq (part_shape_exchanged true) (λ typed. seq (beginning_exchanged (scalar_of typed.shape)) (λ _. nothing _))
part_exchanged false = seq (part_shape_exchanged false) (λ typed. seq (beginning_exchanged (scalar_of typed.shape)) (λ _. nothing _))

pub begun_exchanged : (first : Bool) (open_ones : List Aggregate) → Exchanges (begun any_shape first open_ones) (begun_at first open_ones)
unfolding begun begun_at
begun_exchanged true open_ones = seq (part_exchanged true) (λ _. nothing _)
begun_exchanged false open_ones = seq (part_exchanged false) (λ _. nothing _)

pub closed_exchanged : (inner : Aggregate) (outer : List Aggregate) → Exchanges (closed inner outer) (closed_at inner outer)
unfolding closed closed_at
closed_exchanged aggregates.Array outer = seq (closing_exchanged aggregates.Array) (λ _. nothing _)
closed_exchanged (aggregates.Struct packed) outer = seq (closing_exchanged (aggregates.Struct packed)) (λ _. nothing _)

pub piece_exchanged : (first : Bool) (open_ones : List Aggregate) → Exchanges (piece any_shape first open_ones) (piece_at first open_ones)
piece_exchanged first [] = begun_exchanged first []
piece_exchanged true (aggregates.Array ∷ outer) = alt (CLOSER aggregates.Array) refl (closed_exchanged aggregates.Array outer) (begun_exchanged true (aggregates.Array ∷ outer))
piece_exchanged false (aggregates.Array ∷ outer) = alt (CLOSER aggregates.Array) refl (closed_exchanged aggregates.Array outer) (begun_exchanged false (aggregates.Array ∷ outer))
piece_exchanged true (aggregates.Struct packed ∷ outer) = alt (CLOSER (aggregates.Struct packed)) refl (closed_exchanged (aggregates.Struct packed) outer) (begun_exchanged true (aggregates.Struct packed ∷ outer))
piece_exchanged false (aggregates.Struct packed ∷ outer) = alt (CLOSER (aggregates.Struct packed)) refl (closed_exchanged (aggregates.Struct packed) outer) (begun_exchanged false (aggregates.Struct packed ∷ outer))

-- ---- where the first part of an initialiser may stand

-- what is told there to be left out
abbrev OUT : List ℕ
OUT = number kinds.RefusedType ∷ number kinds.Target ∷ number kinds.RegisterInteger ∷ number kinds.Word ∷ []

-- what a part begins with, and what is told there
abbrev WITH : Bool → List Aggregate → List ℕ
WITH true [] = OUT ++ SHAPE
WITH first open_ones = BEGINNINGS first open_ones

abbrev fresh : Bool → List Aggregate → Bool
fresh true [] = true
fresh first open_ones = false

abbrev begins_with : Spot → Tok → Bool
begins_with s = among tokens (WITH s.0 s.1)

same_beginnings : (first : Bool) (open_ones : List Aggregate) → fresh first open_ones ≡ false → WITH first open_ones ≡ BEGINNINGS first open_ones
same_beginnings true [] e = absurd cc
same_beginnings false [] e = refl
same_beginnings true (a ∷ open_ones) e = refl
same_beginnings false (a ∷ open_ones) e = refl

entered_fresh : (o : Option Aggregate) (open_ones : List Aggregate) → fresh (entered o open_ones).0 (entered o open_ones).1 ≡ false
entered_fresh None open_ones = refl
entered_fresh (Some a) open_ones = refl

begun_fresh : (first : Bool) (open_ones : List Aggregate) (front : List Tok) (x : InitPart × Spot) → begun any_shape first open_ones front x → fresh x.1.0 x.1.1 ≡ false
unfolding begun form.◌>>=◌
begun_fresh first open_ones front x (f, b, p, e, s, r) = ap (λ (y : InitPart × Spot). fresh y.1.0 y.1.1) r.1 ∙ entered_fresh (aggregate_of p.1) open_ones

closed_fresh : (inner : Aggregate) (outer : List Aggregate) (front : List Tok) (x : InitPart × Spot) → closed inner outer front x → fresh x.1.0 x.1.1 ≡ false
unfolding closed form.◌>>=◌
closed_fresh inner outer front x (f, b, u, e, s, r) = ap (λ (y : InitPart × Spot). fresh y.1.0 y.1.1) r.1

piece_fresh : (first : Bool) (open_ones : List Aggregate) (front : List Tok) (x : InitPart × Spot) → piece any_shape first open_ones front x → fresh x.1.0 x.1.1 ≡ false
unfolding form.either
piece_fresh first [] front x s = begun_fresh first [] front x s
piece_fresh first (inner ∷ outer) front x (inl s) = closed_fresh inner outer front x s
piece_fresh first (inner ∷ outer) front x (inr s) = begun_fresh first (inner ∷ outer) front x s

next_fresh : (s : Spot) (ts : List Tok) (x : (InitPart × Spot) × List Tok) → there_at s ts ≡ Ok x → fresh x.0.1.0 x.0.1.1 ≡ false
next_fresh s ts x e = let p = (piece_exchanged s.0 s.1).sound ts x.1 x.0 e in piece_fresh s.0 s.1 p.0 x.0 p.2

-- behind a first part they are the same
chain_same : (n : ℕ) (s : Spot) (ts : List Tok) → fresh s.0 s.1 ≡ false → chain_within outermost begins_with there_at n s ts ≡ chain_within outermost begins_there there_at n s ts
chain_same zero s ts e = ap (λ (bs : List ℕ). cond (outermost s && not (next_is (among tokens bs) ts)) (reads [] ts) (fault_at Syntax ts)) (same_beginnings s.0 s.1 e)
chain_same (suc n) s ts e =
    ap (λ (bs : List ℕ). cond (outermost s && not (next_is (among tokens bs) ts)) (reads [] ts) (follow (there_at s ts) (λ x. chain_within outermost begins_with there_at n x.1 >>= λ more. done (x.0 ∷ more)))) (same_beginnings s.0 s.1 e)
    ∙ ap (λ (r : Result (List InitPart × List Tok) Fault). cond (outermost s && not (next_is (begins_there s) ts)) (reads [] ts) r) (by_result (λ next mid f. chain_same n next mid f) (there_at s ts) refl)
  where
    by_result : ((next : Spot) (mid : List Tok) → fresh next.0 next.1 ≡ false → chain_within outermost begins_with there_at n next mid ≡ chain_within outermost begins_there there_at n next mid) → (r : Result ((InitPart × Spot) × List Tok) Fault) → there_at s ts ≡ r
        → follow r (λ x. chain_within outermost begins_with there_at n x.1 >>= λ more. done (x.0 ∷ more)) ≡ follow r (λ x. chain_within outermost begins_there there_at n x.1 >>= λ more. done (x.0 ∷ more))
    by_result again (Err d) q = refl
    by_result again (Ok x) q = ap (λ (r : Result (List InitPart × List Tok) Fault). follow r (λ more. done (x.0.0 ∷ more))) (again x.0.1 x.1 (next_fresh s ts x q))

-- at one of those that are told
same : (n m : ℕ) → nat_eq n m ≡ true → n ≡ m
same n m h = grind arith

out_not : (n : ℕ) → contains OUT n ≡ false → memory_refusal n ≡ refusal n
out_not n e = by_tests (nat_eq n (number kinds.RefusedType)) (nat_eq n (number kinds.Target)) (nat_eq n (number kinds.RegisterInteger)) (nat_eq n (number kinds.Word)) (refusal n) e
  where
    by_tests : (a b c d : Bool) (k : TokenFault) → a || (b || (c || (d || false))) ≡ false → cond c Profile (cond (b || (a || false)) Profile k) ≡ k
    by_tests true b c d k e = absurd cc
    by_tests false true c d k e = absurd cc
    by_tests false false true d k e = absurd cc
    by_tests false false false d k e = refl

over_told : (of : ℕ → Reader Tok Typed) (part : Bool → Extent → Reader Tok Typed) (innermost : Reader Tok Typed) (t : Tok) (ts : List Tok) → contains OUT (number t.kind) ≡ true → shape_over_at of part innermost (t ∷ ts) ≡ innermost (t ∷ ts)
unfolding shape_over_at
over_told of part innermost t ts e =
    passed OPEN_BRACKET (array_at of) (pick (among tokens OPEN_BRACE) (structure_at (part false)) (pick (among tokens OPEN_ANGLE) (packed_at (part true)) innermost)) t ts (apart OUT OPEN_BRACKET refl (number t.kind) e)
    ∙ passed OPEN_BRACE (structure_at (part false)) (pick (among tokens OPEN_ANGLE) (packed_at (part true)) innermost) t ts (apart OUT OPEN_BRACE refl (number t.kind) e)
    ∙ passed OPEN_ANGLE (packed_at (part true)) innermost t ts (apart OUT OPEN_ANGLE refl (number t.kind) e)

leaf_told : (room : Room) (t : Tok) (ts : List Tok) → contains OUT (number t.kind) ≡ true → leaf_at room (t ∷ ts) ≡ fault_at (memory_refusal (number t.kind)) (t ∷ ts)
leaf_told room t ts e = ap (token_means t ts) (leaf_outside room t (apart OUT LEAF refl (number t.kind) e))

shape_told : (depth : ℕ) (room : Room) (t : Tok) (ts : List Tok) → contains OUT (number t.kind) ≡ true → shape_at depth room (t ∷ ts) ≡ fault_at (memory_refusal (number t.kind)) (t ∷ ts)
unfolding innermost_at
shape_told zero room t ts e = passed BRACKETS (fault_at Limit) (leaf_at room) t ts (apart OUT BRACKETS refl (number t.kind) e) ∙ leaf_told room t ts e
shape_told (suc depth) room t ts e = over_told (λ n. shape_at depth (shared n room)) (λ packed s. shape_at depth (left packed room s)) (leaf_at room) t ts e ∙ leaf_told room t ts e

memory_told : (t : Tok) (ts : List Tok) → contains OUT (number t.kind) ≡ true → memory_shape_at (t ∷ ts) ≡ fault_at (memory_refusal (number t.kind)) (t ∷ ts)
unfolding memory_shape_at
memory_told t ts e = shape_told 32 whole t ts e

told_first : {A B : Type 0} (f : Reader Tok A) (h : A → Reader Tok B) (t : Tok) (ts : List Tok) → f (t ∷ ts) ≡ fault_at (memory_refusal (number t.kind)) (t ∷ ts) → (f >>= h) (t ∷ ts) ≡ fault_at (memory_refusal (number t.kind)) (t ∷ ts)
told_first {A} f h t ts e = ap (λ (r : Result (A × List Tok) Fault). follow r h) e

first_part_told : (t : Tok) (ts : List Tok) → contains OUT (number t.kind) ≡ true → part_at true (t ∷ ts) ≡ fault_at (memory_refusal (number t.kind)) (t ∷ ts)
unfolding part_at
first_part_told t ts e = told_first memory_shape_at _ t ts (memory_told t ts e)

part_told : (t : Tok) (ts : List Tok) → contains OUT (number t.kind) ≡ true → there_at (true, []) (t ∷ ts) ≡ fault_at (memory_refusal (number t.kind)) (t ∷ ts)
unfolding begun_at
part_told t ts e = told_first (part_at true) _ t ts (first_part_told t ts e)

abbrev fine : Unit {0} → Result (Unit {0}) TokenFault
fine u = Ok u

abbrev failed : TokenFault → Result (Unit {0}) TokenFault
failed k = Err k

no_mark : (wanted : TokenKind) → contains OUT (number wanted) ≡ false → (n : ℕ) → contains OUT n ≡ true → nat_eq n (number wanted) ≡ false
no_mark wanted a n e = by_test (nat_eq n (number wanted)) refl
  where
    differ : true ≡ false → ⊥
    differ e = cc

    by_test : (b : Bool) → nat_eq n (number wanted) ≡ b → b ≡ false
    by_test true p = absurd (differ (sym e ∙ ap (contains OUT) (same n (number wanted) p) ∙ a))
    by_test false p = refl

mark_told : (wanted : TokenKind) → contains OUT (number wanted) ≡ false → (t : Tok) (ts : List Tok) → contains OUT (number t.kind) ≡ true → mark_at true wanted (t ∷ ts) ≡ fault_at (memory_refusal (number t.kind)) (t ∷ ts)
unfolding is_class
mark_told wanted a t ts e = ap (λ (b : Bool). token_means t ts (cond b (fine tt) (failed (memory_refusal (number t.kind))))) (no_mark wanted a (number t.kind) e)

mark_same : (wanted : TokenKind) (t : Tok) (ts : List Tok) → contains OUT (number t.kind) ≡ false → mark_at false wanted (t ∷ ts) ≡ mark_at true wanted (t ∷ ts)
unfolding is_class
mark_same wanted t ts e = ap (λ (k : TokenFault). token_means t ts (cond (nat_eq (number t.kind) (number wanted)) (fine tt) (failed k))) (sym (out_not (number t.kind) e))

closing_told : (a : Aggregate) (t : Tok) (ts : List Tok) → contains OUT (number t.kind) ≡ true → closing_at true a (t ∷ ts) ≡ fault_at (memory_refusal (number t.kind)) (t ∷ ts)
unfolding brace_at
closing_told aggregates.Array t ts e = mark_told kinds.CloseBracket refl t ts e
closing_told (aggregates.Struct packed) t ts e = ap (λ (r : Result (Unit {0} × List Tok) Fault). follow r (λ _. angle_at packed)) (mark_told kinds.CloseBrace refl t ts e)

closing_same : (a : Aggregate) (t : Tok) (ts : List Tok) → contains OUT (number t.kind) ≡ false → closing_at false a (t ∷ ts) ≡ closing_at true a (t ∷ ts)
unfolding brace_at
closing_same aggregates.Array t ts e = mark_same kinds.CloseBracket t ts e
closing_same (aggregates.Struct packed) t ts e = ap (λ (r : Result (Unit {0} × List Tok) Fault). follow r (λ _. angle_at packed)) (mark_same kinds.CloseBrace t ts e)

abbrev ends_plainly : Aggregate → List InitPart → Reader Tok (List InitPart)
ends_plainly a ps = closing_at false a >>= λ _. done (ps ++ init_parts.End ∷ [])

abbrev ends_told : Aggregate → List InitPart → Reader Tok (List InitPart)
ends_told a ps = closing_at (is_none ps) a >>= λ _. done (ps ++ init_parts.End ∷ [])

out_with : (n : ℕ) → contains OUT n ≡ true → contains (OUT ++ SHAPE) n ≡ true
out_with n e = by_tests (nat_eq n (number kinds.RefusedType)) (nat_eq n (number kinds.Target)) (nat_eq n (number kinds.RegisterInteger)) (nat_eq n (number kinds.Word)) (contains SHAPE n) e
  where
    by_tests : (a b c d s : Bool) → a || (b || (c || (d || false))) ≡ true → a || (b || (c || (d || s))) ≡ true
    by_tests true b c d s e = refl
    by_tests false true c d s e = refl
    by_tests false false true d s e = refl
    by_tests false false false true s e = refl
    by_tests false false false false s e = absurd cc

out_without : (n : ℕ) → contains OUT n ≡ false → contains (OUT ++ SHAPE) n ≡ contains SHAPE n
out_without n e = by_tests (nat_eq n (number kinds.RefusedType)) (nat_eq n (number kinds.Target)) (nat_eq n (number kinds.RegisterInteger)) (nat_eq n (number kinds.Word)) (contains SHAPE n) e
  where
    by_tests : (a b c d s : Bool) → a || (b || (c || (d || false))) ≡ false → a || (b || (c || (d || s))) ≡ s
    by_tests true b c d s e = absurd cc
    by_tests false true c d s e = absurd cc
    by_tests false false true d s e = absurd cc
    by_tests false false false true s e = absurd cc
    by_tests false false false false s e = refl

module _ (a : Aggregate) where
  abbrev some_more : ℕ → (Spot → Tok → Bool) → (InitPart × Spot) → Reader Tok (List InitPart)
  some_more n begins x = chain_within outermost begins there_at n x.1 >>= λ more. done (x.0 ∷ more)

  -- a first part, and what follows
  first_part : (n : ℕ) (t : Tok) (ts : List Tok) (r : Result ((InitPart × Spot) × List Tok) Fault) → there_at (true, []) (t ∷ ts) ≡ r → follow (follow r (some_more n begins_with)) (ends_plainly a) ≡ follow (follow r (some_more n begins_there)) (ends_told a)
  first_part n t ts (Err d) q = refl
  first_part n t ts (Ok x) q = by_more (chain_within outermost begins_there there_at n x.0.1 x.1) (chain_same n x.0.1 x.1 (next_fresh (true, []) (t ∷ ts) x q))
    where
      by_more : (r : Result (List InitPart × List Tok) Fault) → chain_within outermost begins_with there_at n x.0.1 x.1 ≡ r → follow (follow (chain_within outermost begins_with there_at n x.0.1 x.1) (λ more. done (x.0.0 ∷ more))) (ends_plainly a) ≡ follow (follow r (λ more. done (x.0.0 ∷ more))) (ends_told a)
      by_more (Err d) p = ap (λ (y : Result (List InitPart × List Tok) Fault). follow (follow y (λ more. done (x.0.0 ∷ more))) (ends_plainly a)) p
      by_more (Ok y) p = ap (λ (y : Result (List InitPart × List Tok) Fault). follow (follow y (λ more. done (x.0.0 ∷ more))) (ends_plainly a)) p

  empty_same : ends_plainly a [] [] ≡ ends_told a [] []
  unfolding brace_at
  empty_same = by_aggregate a
    where
      by_aggregate : (a : Aggregate) → ends_plainly a [] [] ≡ ends_told a [] []
      by_aggregate aggregates.Array = refl
      by_aggregate (aggregates.Struct packed) = refl

  parts_same : (ts : List Tok) → (chain_at outermost begins_with there_at (true, []) >>= ends_plainly a) ts ≡ (listed_at >>= ends_told a) ts
  parts_same [] = empty_same
  parts_same (t ∷ ts) = by_test (contains OUT (number t.kind)) refl
    where
      by_shape : (b : Bool) → contains OUT (number t.kind) ≡ false → follow (cond (not b) (reads [] (t ∷ ts)) (follow (there_at (true, []) (t ∷ ts)) (some_more (length (t ∷ ts)) begins_with))) (ends_plainly a) ≡ follow (cond (not b) (reads [] (t ∷ ts)) (follow (there_at (true, []) (t ∷ ts)) (some_more (length (t ∷ ts)) begins_there))) (ends_told a)
      by_shape true e = first_part (length (t ∷ ts)) t ts (there_at (true, []) (t ∷ ts)) refl
      by_shape false e = ap (λ (r : Result (Unit {0} × List Tok) Fault). follow r (λ _. done ([] ++ init_parts.End ∷ []))) (closing_same a t ts e)

      by_test : (b : Bool) → contains OUT (number t.kind) ≡ b → follow (cond (not (contains (OUT ++ SHAPE) (number t.kind))) (reads [] (t ∷ ts)) (follow (there_at (true, []) (t ∷ ts)) (some_more (length (t ∷ ts)) begins_with))) (ends_plainly a) ≡ follow (cond (not (contains SHAPE (number t.kind))) (reads [] (t ∷ ts)) (follow (there_at (true, []) (t ∷ ts)) (some_more (length (t ∷ ts)) begins_there))) (ends_told a)
      by_test true e = rw (out_with (number t.kind) e, apart OUT SHAPE refl (number t.kind) e, part_told t ts e) (sym (ap (λ (r : Result (Unit {0} × List Tok) Fault). follow r (λ _. done ([] ++ init_parts.End ∷ []))) (closing_told a t ts e)))
      by_test false e = rw (out_without (number t.kind) e) (by_shape (contains SHAPE (number t.kind)) e)

-- ---- the parts of an initialiser

closed_there : (first : Bool) (inner : Aggregate) (outer : List Aggregate) → (ts : List Tok) × piece any_shape first (inner ∷ outer) ts (init_parts.End, (false, outer)) × AllReal tokens ts
unfolding closed form.◌>>=◌ form.either
closed_there first inner outer = let c = (closing_exchanged inner).some in (c.0, inl (c.0, [], c.1, sym (append-nil c.0), c.2, (refl, refl)), c.3)

abbrev Finished : Spot → Type 0
Finished s = (ts : List Tok) × (ps : List InitPart) × Chain outermost (λ s. piece any_shape s.0 s.1) s ts ps × AllReal tokens ts

finished : (first : Bool) (open_ones : List Aggregate) → Finished (first, open_ones)
finished first [] = ([], [], (refl, refl), tt)
finished first (inner ∷ outer) =
    let c = closed_there first inner outer in
    let m = finished false outer in
    (c.0 ++ m.0, init_parts.End ∷ m.1, (c.0, m.0, (false, outer), refl, c.1, m.2), all_real tokens c.0 m.0 c.2 m.3)

fair_there : (first : Bool) (open_ones : List Aggregate) → outermost (first, open_ones) ≡ true → fair (WITH first open_ones) ≡ true
fair_there true [] e = refl
fair_there false [] e = refl
fair_there first (a ∷ open_ones) e = absurd cc

all_parts_exchanged : Exchanges (listed any_shape) (chain_at outermost begins_with there_at (true, []))
all_parts_exchanged = chain outermost (λ s. WITH s.0 s.1) (λ s. piece any_shape s.0 s.1) there_at (λ s. piece_exchanged s.0 s.1) (λ s x q. taken (piece_rule s.0 s.1) x q) (λ s. finished s.0 s.1) (λ s e. fair_there s.0 s.1 e) (true, [])

mark_too : (none : Bool) (wanted : TokenKind) (ts : List Tok) (u : Unit {0}) → mark false wanted ts u → mark none wanted ts u
unfolding is_class
mark_too false wanted ts u s = s
mark_too true wanted [] u s = absurd s
mark_too true wanted (t ∷ v ∷ ts) u s = absurd s
mark_too true wanted (t ∷ []) u s = by_test (nat_eq (number t.kind) (number wanted)) s
  where
    by_test : (b : Bool) → cond b (fine tt) (failed (refusal (number t.kind))) ≡ fine u → cond b (fine tt) (failed (memory_refusal (number t.kind))) ≡ fine u
    by_test true s = s
    by_test false s = absurd cc

closing_too : (none : Bool) (a : Aggregate) (ts : List Tok) (u : Unit {0}) → closing false a ts u → closing none a ts u
unfolding brace form.◌>>=◌
closing_too none aggregates.Array ts u s = mark_too none kinds.CloseBracket ts u s
closing_too none (aggregates.Struct packed) ts u (front, back, v, e, s, r) = (front, back, v, e, mark_too none kinds.CloseBrace front v s, r)

parts_too : (a : Aggregate) (ts : List Tok) (ps : List InitPart) → form.◌>>=◌ (listed any_shape) (λ ps. form.◌>>=◌ (closing false a) (λ _. form.gives (ps ++ init_parts.End ∷ []))) ts ps → parts any_shape a ts ps
unfolding parts form.◌>>=◌
parts_too a ts ps (front, back, qs, e, s, (front', back', u, e', c, r)) = (front, back, qs, e, s, (front', back', u, e', closing_too (is_none qs) a front' u c, r))

pub parts_exchanged : (a : Aggregate) → Exchanges (parts any_shape a) (parts_at a)
unfolding parts_at
parts_exchanged a = recast (parts_too a) (same_reader (parts_same a) (seq all_parts_exchanged (λ ps. seq (closing_exchanged a) (λ _. nothing (ps ++ init_parts.End ∷ [])))))

pub behind_exchanged : (whole : Option Aggregate) → Exchanges (behind any_shape whole) (behind_at whole)
behind_exchanged None = nothing []
behind_exchanged (Some whole) = parts_exchanged whole

pub initialiser_exchanged : (scalar : Option Reg) → Exchanges (initialiser any_shape scalar) (initialiser_at scalar)
unfolding initialiser initialiser_at
initialiser_exchanged scalar = seq (beginning_exchanged scalar) (λ root. seq (behind_exchanged (aggregate_of root)) (λ _. nothing _))
