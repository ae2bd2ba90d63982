-- The first fault of the readers of initialisers is of a kind that its token allows.
use Rattle.ir_parse.proofs.Told.{behind_class, brace_behind_told, seq_behind, Tells, takes_of, seq, nothing, alt, Refuses, class, chain, the_told, one_told, refusal_refuses, memory_refusal_refuses}
use Rattle.std.specs.Prelude.{Bool, true, false, Option, Some, None, List, [], ◌∷◌}
use Rattle.ir_lex.specs.declared.token_kind.TokenKind.{TokenKind}
use Rattle.ir_lex.specs.declared.token_kind.TokenKind.TheVariants as kinds
use Rattle.ir_lex.specs.TokenKinds.{number}
use Rattle.ir_tree.specs.declared.operand.Reg.{Reg}
use Rattle.ir_parse_parts.specs.Alphabet.{among}
use Rattle.ir_parse_parts.specs.Ahead.{BRACKETS}
use Rattle.ir_parse_parts.specs.Classes.{tokens}
use Rattle.ir_parse_parts.specs.declared.raw.InitHead.TheVariants as inits
use Rattle.ir_parse_operands.specs.ShapeForms.{OPEN_ANGLE, OPEN_BRACKET, OPEN_BRACE}
use Rattle.ir_parse.proofs.ToldShapeForms.{memory_shape_told}
use Rattle.ir_parse.proofs.ToldConstants.{constant_told}
use Rattle.ir_parse_globals.specs.Initialisers.{scalar_of, BYTES, aggregate_of, closing_refusal, Spot, outermost, is_none}
use Rattle.ir_parse_globals.specs.declared.initialisers.Aggregate.{Aggregate}
use Rattle.ir_parse_globals.specs.declared.initialisers.Aggregate.TheVariants as aggregates
use Rattle.ir_parse_globals.specs.InitialisersAt.{ZEROS, zeros_at, bytes_at, array_begin_at, structure_begin_at, packed_begin_at, aggregate_begin_at, beginning_at, mark_at, angle_at, brace_at, closing_at, part_shape_at, part_at, begun_at, closed_at, CLOSER, piece_at, begins_there, there_at, listed_at, parts_at, behind_at, initialiser_at}
use Rattle.std.proofs.Common.{Bool, true, false}
use Rattle.ir_parse_globals.proofs.InitialiserRules.{piece_rule}

pub zeros_told : Tells zeros_at
unfolding zeros_at
zeros_told = seq (the_told kinds.ZeroInitializer) (λ _. nothing _)

pub bytes_told : Tells bytes_at
unfolding bytes_at
bytes_told = one_told BYTES (λ t. inits.Bytes t)

pub array_begin_told : Tells array_begin_at
unfolding array_begin_at
array_begin_told = seq (the_told kinds.OpenBracket) (λ _. nothing _)

pub structure_begin_told : Tells structure_begin_at
unfolding structure_begin_at
structure_begin_told = seq (the_told kinds.OpenBrace) (λ _. nothing _)

pub packed_begin_told : Tells packed_begin_at
unfolding packed_begin_at
packed_begin_told = behind_class kinds.OpenAngle (λ _. seq_behind OPEN_ANGLE brace_behind_told (λ _. nothing _))

pub aggregate_begin_told : Tells aggregate_begin_at
unfolding aggregate_begin_at
aggregate_begin_told = alt (among tokens OPEN_BRACKET) array_begin_told (alt (among tokens OPEN_BRACE) structure_begin_told packed_begin_told)

pub beginning_told : (scalar : Option Reg) → Tells (beginning_at scalar)
unfolding beginning_at
beginning_told scalar =
    alt (among tokens ZEROS) zeros_told (alt (among tokens BYTES) bytes_told (alt (among tokens BRACKETS) aggregate_begin_told (constant_told scalar)))

closing_refusal_refuses : (none : Bool) → Refuses (closing_refusal none)
closing_refusal_refuses true = memory_refusal_refuses
closing_refusal_refuses false = refusal_refuses

pub mark_told : (none : Bool) → (wanted : TokenKind) → Tells (mark_at none wanted)
mark_told none wanted = class (closing_refusal none) (closing_refusal_refuses none) (number wanted)

pub angle_told : (x0 : Bool) → Tells (angle_at x0)
angle_told true = the_told kinds.CloseAngle
angle_told false = nothing _

pub brace_told : (none : Bool) → (packed : Bool) → Tells (brace_at none packed)
unfolding brace_at
brace_told none packed = seq (mark_told none kinds.CloseBrace) (λ _. angle_told packed)

pub closing_told : (none : Bool) → (x1 : Aggregate) → Tells (closing_at none x1)
closing_told none aggregates.Array = mark_told none kinds.CloseBracket
closing_told none (aggregates.Struct packed) = brace_told none packed

pub part_shape_told : (x0 : Bool) → Tells (part_shape_at x0)
part_shape_told true = memory_shape_told
part_shape_told false = seq (the_told kinds.Comma) (λ _. memory_shape_told)

pub part_told : (first : Bool) → Tells (part_at first)
unfolding part_at
part_told first = seq (part_shape_told first) (λ typed. seq (beginning_told (scalar_of typed.shape)) (λ head. nothing _))

pub begun_told : (first : Bool) → (open_ones : List Aggregate) → Tells (begun_at first open_ones)
unfolding begun_at
begun_told first open_ones = seq (part_told first) (λ p. nothing _)

pub closed_told : (inner : Aggregate) → (outer : List Aggregate) → Tells (closed_at inner outer)
unfolding closed_at
closed_told inner outer = seq (closing_told false inner) (λ _. nothing _)

pub piece_told : (first : Bool) → (x1 : List Aggregate) → Tells (piece_at first x1)
piece_told first [] = begun_told first []
piece_told first (inner ∷ outer) = alt (among tokens (CLOSER inner)) (closed_told inner outer) (begun_told first (inner ∷ outer))

pub there_told : (s : Spot) → Tells (there_at s)
there_told s = piece_told s.0 s.1

pub listed_told : Tells listed_at
listed_told = chain outermost begins_there (λ s. there_told s) (λ s. takes_of (piece_rule s.0 s.1)) (true, [])

pub parts_told : (whole : Aggregate) → Tells (parts_at whole)
unfolding parts_at
parts_told whole = seq listed_told (λ ps. seq (closing_told (is_none ps) whole) (λ _. nothing _))

pub behind_told : (x0 : Option Aggregate) → Tells (behind_at x0)
behind_told None = nothing _
behind_told (Some whole) = parts_told whole

pub initialiser_told : (scalar : Option Reg) → Tells (initialiser_at scalar)
unfolding initialiser_at
initialiser_told scalar = seq (beginning_told scalar) (λ root. seq (behind_told (aggregate_of root)) (λ ps. nothing _))
