-- The readers of initialisers read them.
use Rattle.std.proofs.Common.{◌≡◌, ℕ, Bool, true, false, Option, Some, None, List, [], ◌∷◌, ◌++◌, Ok, refl, sym, ap, inl}
use Rattle.std.proofs.lemmas.List.{append-nil}
use Rattle.std.specs.Prelude.{codes}
use Rattle.ir_lex.specs.Bytes.{has}
use Rattle.ir_lex.specs.declared.token_kind.TokenKind.{TokenKind}
use Rattle.ir_lex.specs.declared.token_kind.TokenKind.TheVariants as kinds
use Rattle.ir_lex.specs.declared.token.TokenForm.TheVariants as forms
use Rattle.ir_lex.specs.TokenKinds.{number, kind_of, word_kind, listed_kind, words_15}
use Rattle.ir_lex.specs.Lexing.{is_bad}
use Rattle.ir_lex.specs.Quotes.{is_zero_name}
use Rattle.ir_lex.specs.Rows.{best_fit, rest_fit, label_len, number_len, word_len, name_len, meta_len, dots_len, other_len, string_len}
use Rattle.ir_lex.specs.Tok.{Tok}
use Rattle.ir_tree.specs.declared.operand.Reg.{Reg}
use Rattle.ir_parse_parts.specs.Alphabet.{among, contains, AllReal}
use Rattle.ir_parse_parts.specs.Chained.{Chain}
use Rattle.ir_parse_parts.specs.declared.fault.TokenFault.TheVariants.{Number, Limit}
use Rattle.ir_parse_parts.specs.Forms as form
use Rattle.ir_parse_parts.specs.Rules.{Rule, is_class}
use Rattle.ir_parse_parts.proofs.Chains.{chain_lawful}
use Rattle.ir_parse_parts.proofs.Composed.{all_real}
use Rattle.ir_parse_parts.proofs.Rules as rules
use Rattle.ir_parse_parts.proofs.Rules.{apart_from, within_of}
use Rattle.ir_parse_parts.specs.Ahead.{BRACKETS}
use Rattle.ir_parse_parts.specs.Classes.{tokens, IsReal, the, the_at}
use Rattle.ir_parse_parts.specs.declared.raw.InitHead.TheVariants as inits
use Rattle.ir_parse_parts.specs.declared.raw.InitPart.{InitPart}
use Rattle.ir_parse_parts.specs.declared.raw.InitPart.TheVariants as init_parts
use Rattle.ir_parse_parts.specs.MetadataAt.{COMMA}
use Rattle.ir_parse_operands.specs.ShapeForms.{any_shape, memory_shape, OPEN_BRACKET, OPEN_BRACE}
use Rattle.ir_parse_operands.proofs.LeafRules.{brace_behind_angle_rule}
use Rattle.ir_parse_parts.proofs.OperandRules.{memory_not_number, memory_not_limit}
use Rattle.ir_parse_operands.proofs.ShapeRules.{memory_shape_rule}
use Rattle.ir_parse_parts.proofs.Singles.{sample, word, not_number, not_limit, the_rule, one_rule, comma_rule, open_bracket_rule, open_brace_rule, open_angle_rule, close_angle_rule, close_bracket_real, close_brace_real}
use Rattle.ir_parse_parts.proofs.Singles as singles
use Rattle.ir_parse_globals.specs.Initialisers.{BYTES, zeros, bytes, array_begin, structure_begin, packed_begin, aggregate_begin, beginning, aggregate_of, scalar_of, closing_refusal, mark, angle, brace, closing, Spot, part_shape, part, begun, closed, piece, outermost, listed, is_none, parts, behind, initialiser}
use Rattle.ir_parse_globals.specs.InitialisersAt.{ZEROS, zeros_at, bytes_at, array_begin_at, structure_begin_at, packed_begin_at, aggregate_begin_at, beginning_at, mark_at, angle_at, brace_at, closing_at, part_shape_at, part_at, begun_at, closed_at, CLOSER, piece_at, SHAPE, PART, BEGINNINGS, begins_there, there_at, listed_at, parts_at, behind_at, initialiser_at}
use Rattle.ir_parse_globals.specs.declared.initialisers.Aggregate.{Aggregate}
use Rattle.ir_parse_globals.specs.declared.initialisers.Aggregate.TheVariants as aggregates
use Rattle.ir_parse_globals.proofs.ConstantRules.{CONSTANT, constant_rule}

-- ---- what an initialiser begins with

zeros_real : IsReal (word kinds.ZeroInitializer (codes "zeroinitializer"))
unfolding best_fit rest_fit label_len number_len word_len name_len meta_len dots_len other_len string_len has is_bad is_zero_name kind_of word_kind listed_kind words_15
zeros_real = record { behind = []; some = refl; fits = refl; good = refl; class = refl }

zeros_word_rule : Rule tokens (the kinds.ZeroInitializer) (the kinds.ZeroInitializer) (the_at kinds.ZeroInitializer) ZEROS [] false
unfolding is_class
zeros_word_rule = the_rule kinds.ZeroInitializer (word kinds.ZeroInitializer (codes "zeroinitializer")) refl zeros_real

zeros_rule : Rule tokens zeros zeros zeros_at ZEROS [] false
unfolding zeros zeros_at
zeros_rule = rules.seq tokens zeros_word_rule (λ _. rules.nothing tokens _) refl

bytes_real : IsReal (sample forms.CStr kinds.CStr (codes "c\"\""))
unfolding best_fit rest_fit label_len number_len word_len name_len meta_len dots_len other_len string_len has is_bad is_zero_name kind_of
bytes_real = record { behind = []; some = refl; fits = refl; good = refl; class = refl }

bytes_rule : Rule tokens bytes bytes bytes_at BYTES [] false
unfolding bytes bytes_at
bytes_rule = one_rule BYTES (λ t. inits.Bytes t) (sample forms.CStr kinds.CStr (codes "c\"\"")) refl bytes_real

aggregate_begin_rule : Rule tokens aggregate_begin aggregate_begin aggregate_begin_at BRACKETS [] false
unfolding aggregate_begin aggregate_begin_at array_begin array_begin_at structure_begin structure_begin_at packed_begin packed_begin_at
aggregate_begin_rule =
    rules.alt tokens OPEN_BRACKET (rules.seq tokens open_bracket_rule (λ _. rules.nothing tokens inits.Array) refl)
    (rules.alt tokens OPEN_BRACE (rules.seq tokens open_brace_rule (λ _. rules.nothing tokens (inits.Struct false)) refl)
    (rules.seq tokens open_angle_rule (λ _. rules.seq tokens brace_behind_angle_rule (λ _. rules.nothing tokens (inits.Struct true)) refl) refl)
    refl refl)
    refl refl

-- what an initialiser begins with
abbrev pub INITIALISER : List ℕ
INITIALISER = number kinds.ZeroInitializer ∷ number kinds.CStr ∷ BRACKETS ++ CONSTANT

pub beginning_rule : (scalar : Option Reg) → Rule tokens (beginning memory_shape scalar) (beginning any_shape scalar) (beginning_at scalar) INITIALISER [] false
unfolding beginning beginning_at
beginning_rule scalar = rules.broader tokens INITIALISER [] (rules.alt tokens ZEROS zeros_rule (rules.alt tokens BYTES bytes_rule (rules.alt tokens BRACKETS aggregate_begin_rule (constant_rule scalar) refl refl) refl refl) refl refl) refl refl

-- ---- what closes an aggregate

closing_not_number : (none : Bool) (n : ℕ) → closing_refusal none n ≡ Number → ⊥
closing_not_number true n e = memory_not_number n e
closing_not_number false n e = not_number n e

closing_not_limit : (none : Bool) (n : ℕ) → closing_refusal none n ≡ Limit → ⊥
closing_not_limit true n e = memory_not_limit n e
closing_not_limit false n e = not_limit n e

mark_rule : (none : Bool) (wanted : TokenKind) (t : Tok) → is_class tokens (closing_refusal none) (number wanted) t ≡ Ok tt → IsReal t → Rule tokens (mark none wanted) (mark none wanted) (mark_at none wanted) (number wanted ∷ []) [] false
mark_rule none wanted t e real = rules.class_rule tokens (closing_refusal none) (closing_not_number none) (closing_not_limit none) (number wanted) t e real

bracket_rule : (none : Bool) → Rule tokens (mark none kinds.CloseBracket) (mark none kinds.CloseBracket) (mark_at none kinds.CloseBracket) (number kinds.CloseBracket ∷ []) [] false
unfolding is_class
bracket_rule none = mark_rule none kinds.CloseBracket (singles.mark kinds.CloseBracket (codes "]")) refl close_bracket_real

brace_mark_rule : (none : Bool) → Rule tokens (mark none kinds.CloseBrace) (mark none kinds.CloseBrace) (mark_at none kinds.CloseBrace) (number kinds.CloseBrace ∷ []) [] false
unfolding is_class
brace_mark_rule none = mark_rule none kinds.CloseBrace (singles.mark kinds.CloseBrace (codes "}")) refl close_brace_real

angle_rule : (packed : Bool) → Rule tokens (angle packed) (angle packed) (angle_at packed) (number kinds.CloseAngle ∷ []) [] true
angle_rule true = rules.wider tokens _ [] close_angle_rule refl refl
angle_rule false = rules.wider tokens _ [] (rules.nothing tokens tt) refl refl

brace_rule : (none packed : Bool) → Rule tokens (brace none packed) (brace none packed) (brace_at none packed) (number kinds.CloseBrace ∷ []) [] false
unfolding brace brace_at
brace_rule none packed = rules.seq tokens (brace_mark_rule none) (λ _. angle_rule packed) refl

closing_rule : (none : Bool) (a : Aggregate) → Rule tokens (closing none a) (closing none a) (closing_at none a) (CLOSER a) [] false
closing_rule none aggregates.Array = bracket_rule none
closing_rule none (aggregates.Struct packed) = brace_rule none packed

-- ---- parts

part_shape_rule : (first : Bool) → Rule tokens (part_shape memory_shape first) (part_shape any_shape first) (part_shape_at first) (PART first) [] false
part_shape_rule true = memory_shape_rule
part_shape_rule false = rules.seq tokens comma_rule (λ _. memory_shape_rule) refl

part_rule : (first : Bool) → Rule tokens (part memory_shape first) (part any_shape first) (part_at first) (PART first) [] false
unfolding part part_at
part_rule true = rules.seq tokens (part_shape_rule true) (λ typed. rules.seq tokens (beginning_rule (scalar_of typed.shape)) (λ _. rules.nothing tokens _) refl) refl
part_rule false = rules.seq tokens (part_shape_rule false) (λ typed. rules.seq tokens (beginning_rule (scalar_of typed.shape)) (λ _. rules.nothing tokens _) refl) refl

begun_rule : (first : Bool) (open_ones : List Aggregate) → Rule tokens (begun memory_shape first open_ones) (begun any_shape first open_ones) (begun_at first open_ones) (PART first) [] false
unfolding begun begun_at
begun_rule true open_ones = rules.seq tokens (part_rule true) (λ _. rules.nothing tokens _) refl
begun_rule false open_ones = rules.seq tokens (part_rule false) (λ _. rules.nothing tokens _) refl

closed_rule : (inner : Aggregate) (outer : List Aggregate) → Rule tokens (closed inner outer) (closed inner outer) (closed_at inner outer) (CLOSER inner) [] false
unfolding closed closed_at
closed_rule aggregates.Array outer = rules.seq tokens (closing_rule false aggregates.Array) (λ _. rules.nothing tokens _) refl
closed_rule (aggregates.Struct packed) outer = rules.seq tokens (closing_rule false (aggregates.Struct packed)) (λ _. rules.nothing tokens _) refl

pub piece_rule : (first : Bool) (open_ones : List Aggregate) → Rule tokens (piece memory_shape first open_ones) (piece any_shape first open_ones) (piece_at first open_ones) (BEGINNINGS first open_ones) [] false
piece_rule first [] = begun_rule first []
piece_rule true (aggregates.Array ∷ outer) = rules.alt tokens (CLOSER aggregates.Array) (closed_rule aggregates.Array outer) (begun_rule true (aggregates.Array ∷ outer)) refl refl
piece_rule false (aggregates.Array ∷ outer) = rules.alt tokens (CLOSER aggregates.Array) (closed_rule aggregates.Array outer) (begun_rule false (aggregates.Array ∷ outer)) refl refl
piece_rule true (aggregates.Struct packed ∷ outer) = rules.alt tokens (CLOSER (aggregates.Struct packed)) (closed_rule (aggregates.Struct packed) outer) (begun_rule true (aggregates.Struct packed ∷ outer)) refl refl
piece_rule false (aggregates.Struct packed ∷ outer) = rules.alt tokens (CLOSER (aggregates.Struct packed)) (closed_rule (aggregates.Struct packed) outer) (begun_rule false (aggregates.Struct packed ∷ outer)) refl refl

-- ---- one behind another

-- what a further part of the whole begins with
abbrev pub FURTHER : List ℕ
FURTHER = SHAPE ++ COMMA

-- the parts of the whole go on with a first part, or with a comma
further_there : (first : Bool) (open_ones : List Aggregate) (t : Tok) → outermost (first, open_ones) ≡ true → begins_there (first, open_ones) t ≡ true → among tokens FURTHER t ≡ true
further_there true [] t d p = within_of SHAPE FURTHER refl (number t.kind) p
further_there false [] t d p = within_of COMMA FURTHER refl (number t.kind) p
further_there first (inner ∷ outer) t d p = absurd cc

-- the aggregates that are open can be closed
abbrev Finished : Spot → Type 0
Finished s = (ts : List Tok) × (ps : List InitPart) × Chain outermost (λ s. piece memory_shape s.0 s.1) s ts ps × AllReal tokens ts

closed_there : (first : Bool) (inner : Aggregate) (outer : List Aggregate) → (ts : List Tok) × piece memory_shape first (inner ∷ outer) ts (init_parts.End, (false, outer)) × AllReal tokens ts
unfolding closed form.either form.◌>>=◌
closed_there first inner outer = let s = (closing_rule false inner).law.some in (s.0, inl (s.0, [], s.1, sym (append-nil s.0), s.2, (refl, refl)), s.3)

finished : (first : Bool) (open_ones : List Aggregate) → Finished (first, open_ones)
finished first [] = ([], [], (refl, refl), tt)
finished first (inner ∷ outer) =
    let c = closed_there first inner outer in
    let m = finished false outer in
    (c.0 ++ m.0, init_parts.End ∷ m.1, (c.0, m.0, (false, outer), refl, c.1, m.2), all_real tokens c.0 m.0 c.2 m.3)

listed_rule : Rule tokens (listed memory_shape) (listed any_shape) listed_at SHAPE FURTHER true
listed_rule = record {
  law = chain_lawful tokens outermost begins_there begins_there (λ _. among tokens []) (among tokens FURTHER) (λ s. piece memory_shape s.0 s.1) (λ s. piece any_shape s.0 s.1) there_at (λ s. (piece_rule s.0 s.1).law) (λ s t u n m. ap (contains (BEGINNINGS s.0 s.1)) (sym m)) (λ s t d e. e)
      (λ s next front a g t p q. apart_from [] (BEGINNINGS next.0 next.1) refl (number t.kind) p q)
      (λ s t p. within_of [] FURTHER refl (number t.kind) p)
      (λ s t d p. further_there s.0 s.1 t d p)
      (λ s. finished s.0 s.1) (true, []);
}

-- what may begin behind the beginning of an aggregate
abbrev pub INSIDE : List ℕ
INSIDE = number kinds.CloseBracket ∷ number kinds.CloseBrace ∷ SHAPE

parts_rule : (whole : Aggregate) → Rule tokens (parts memory_shape whole) (parts any_shape whole) (parts_at whole) INSIDE [] false
unfolding parts parts_at
parts_rule aggregates.Array = rules.broader tokens INSIDE [] (rules.seq tokens listed_rule (λ ps. rules.seq tokens (closing_rule (is_none ps) aggregates.Array) (λ _. rules.nothing tokens _) refl) refl) refl refl
parts_rule (aggregates.Struct packed) = rules.broader tokens INSIDE [] (rules.seq tokens listed_rule (λ ps. rules.seq tokens (closing_rule (is_none ps) (aggregates.Struct packed)) (λ _. rules.nothing tokens _) refl) refl) refl refl

behind_rule : (whole : Option Aggregate) → Rule tokens (behind memory_shape whole) (behind any_shape whole) (behind_at whole) INSIDE [] true
behind_rule None = rules.wider tokens INSIDE [] (rules.nothing tokens []) refl refl
behind_rule (Some whole) = rules.wider tokens INSIDE [] (parts_rule whole) refl refl

pub initialiser_rule : (scalar : Option Reg) → Rule tokens (initialiser memory_shape scalar) (initialiser any_shape scalar) (initialiser_at scalar) INITIALISER [] false
unfolding initialiser initialiser_at
initialiser_rule scalar = rules.seq tokens (beginning_rule scalar) (λ root. rules.seq tokens (behind_rule (aggregate_of root)) (λ _. rules.nothing tokens _) refl) refl
