-- Initialisers that the grammar spells: counts of the shapes of their parts, constants of integers behind these, and strings of
-- bytes.
use Rattle.std.proofs.Common.{◌≡◌, ℕ, Bool, true, false, inl, inr, List, [], ◌∷◌, Option, Some, None, option_map, refl, subst}
use Rattle.std.specs.List.{AllByRecursion as Each}
use Rattle.ir_parse_globals.specs.Constants.{constant, constant_by, number_of, plain, single, type_of}
use Rattle.ir_parse_globals.specs.Initialisers as initial
use Rattle.ir_parse_globals.specs.Initialisers.{aggregate_of, scalar_of}
use Rattle.ir_parse_globals.specs.Variables.{value}
use Rattle.ir_parse_globals.specs.declared.initialisers.Aggregate.{Aggregate}
use Rattle.ir_lex.specs.Tok.{Tok}
use Rattle.ir_lex.specs.declared.token_kind.TokenKind.{TokenKind}
use Rattle.ir_lex.specs.declared.token_kind.TokenKind.TheVariants as kinds
use Rattle.ir_parse_parts.specs.Literals.{literal}
use Rattle.ir_parse_operands.specs.ShapeForms.{memory_shape}
use Rattle.ir_parse_parts.specs.Shapes as shapes
use Rattle.ir_parse_parts.specs.Shapes.{Written}
use Rattle.ir_parse_parts.specs.declared.raw.InitPart.TheVariants as init_parts
use Rattle.ir_parse_parts.specs.declared.raw.InitHead.{InitHead}
use Rattle.ir_parse_parts.specs.declared.raw.InitHead.TheVariants as inits
use Rattle.ir_parse_parts.specs.Operands.{named}
use Rattle.ir_parse_parts.specs.declared.raw.Operand.TheVariants as operands
use Rattle.ir_round_trip.specs.Spelled.{BeginningSpelled, ConstantSpelled, Counted, InitSpelled, PartSpelled}
use Rattle.ir_round_trip.proofs.Means.{Means, among_means, chain_means, either_means, follow, nothing, pushed, skip, valued_means}
use Rattle.ir_round_trip.proofs.WithinOperands.{address_means, from_literal}
use Rattle.ir_round_trip.proofs.WithinShapes.{TypedCounted, shape_counted}

-- ---- constants

one_bit : (s : Written) (o : InitHead) → Some (plain (operands.Number 1 0)) ≡ Some o → BeginningSpelled s o
one_bit s o e = let same : plain (operands.Number 1 0) ≡ o = cc in subst (BeginningSpelled s) same (inl refl)

-- the number itself
kept : (s : Written) (t : Tok) (o : InitHead) → Some (inits.Number t) ≡ Some o → BeginningSpelled s o
kept s t o e = let same : inits.Number t ≡ o = cc in subst (BeginningSpelled s) same tt

number_spelled : (s : Written) (t : Tok) (o : InitHead) → number_of (scalar_of s) t ≡ Some o → BeginningSpelled s o
number_spelled (shapes.int w) t o e = from_literal (λ (bits : ℕ). plain (operands.Number w bits)) (BeginningSpelled (shapes.int w)) (λ n. inr refl) (literal w t.text) o e
number_spelled shapes.pointer t o e = one_bit shapes.pointer o e
number_spelled (shapes.array count of) t o e = kept (shapes.array count of) t o e
number_spelled (shapes.structure packed parts) t o e = kept (shapes.structure packed parts) t o e
number_spelled (shapes.named name) t o e = kept (shapes.named name) t o e

global_spelled : (s : Written) (t : Option Tok) (o : InitHead) → option_map (λ (name : Tok). plain (operands.Global name)) t ≡ Some o → BeginningSpelled s o
global_spelled s None o e = absurd cc
global_spelled s (Some t) o e = let same : plain (operands.Global t) ≡ o = cc in subst (BeginningSpelled s) same tt

constant_class : (head : TokenKind) (s : Written) (t : Tok) (o : InitHead) → constant_by head (scalar_of s) t ≡ Some o → BeginningSpelled s o
constant_class kinds.Number s t o e = number_spelled s t o e
constant_class kinds.True s t o e = let same : plain (operands.Number 1 1) ≡ o = cc in subst (BeginningSpelled s) same (inl refl)
constant_class kinds.False s t o e = one_bit s o e
constant_class kinds.Null s t o e = let same : plain operands.Null ≡ o = cc in subst (BeginningSpelled s) same tt
constant_class kinds.Poison s t o e = let same : plain (operands.Poison (type_of (scalar_of s))) ≡ o = cc in subst (BeginningSpelled s) same tt
constant_class kinds.Global s t o e = let same : plain (operands.Global t) ≡ o = cc in subst (BeginningSpelled s) same tt
constant_class kinds.NumberedGlobal s t o e = global_spelled s (named t) o e
constant_class kinds.NumberedDefinition s t o e = global_spelled s (named t) o e
constant_class head s t o e = absurd cc

single_spelled : (s : Written) → Means (single (scalar_of s)) (BeginningSpelled s)
single_spelled s = valued_means _ _ (λ t o c e. constant_class t.kind s t o e)

constant_spelled : (s : Written) → Means (constant memory_shape (scalar_of s)) (BeginningSpelled s)
unfolding constant
constant_spelled s = either_means (follow {P = ConstantSpelled s} (address_means (λ a. tt)) (λ v g. nothing g)) (single_spelled s)

-- ---- beginnings

beginning_spelled : (s : Written) → Means (initial.beginning memory_shape (scalar_of s)) (BeginningSpelled s)
unfolding initial.beginning initial.zeros initial.bytes initial.aggregate_begin initial.array_begin initial.structure_begin initial.packed_begin
beginning_spelled s =
    either_means (skip _ (λ _. nothing tt))
    (either_means (among_means _ _ _ (λ t c k. c.bytes))
    (either_means (either_means (skip _ (λ _. nothing tt)) (either_means (skip _ (λ _. nothing tt)) (skip _ (λ _. skip _ (λ _. nothing tt)))))
    (constant_spelled s)))

-- ---- parts

part_shape_counted : (first : Bool) → Means (initial.part_shape memory_shape first) TypedCounted
part_shape_counted true = shape_counted
part_shape_counted false = skip _ (λ _. shape_counted)

part_spelled : (first : Bool) → Means (initial.part memory_shape first) (λ p. Counted p.0.shape × BeginningSpelled p.0.shape p.1)
unfolding initial.part
part_spelled first = follow (part_shape_counted first) (λ typed h. follow (beginning_spelled typed.shape) (λ head g. nothing (h, g)))

begun_spelled : (first : Bool) (open_ones : List Aggregate) → Means (initial.begun memory_shape first open_ones) (λ x. PartSpelled x.0)
unfolding initial.begun
begun_spelled first open_ones = follow (part_spelled first) (λ p h. nothing h)

closed_spelled : (inner : Aggregate) (outer : List Aggregate) → Means (initial.closed inner outer) (λ x. PartSpelled x.0)
unfolding initial.closed
closed_spelled inner outer = skip _ (λ _. nothing tt)

piece_spelled : (first : Bool) (open_ones : List Aggregate) → Means (initial.piece memory_shape first open_ones) (λ x. PartSpelled x.0)
piece_spelled first [] = begun_spelled first []
piece_spelled first (inner ∷ outer) = either_means (closed_spelled inner outer) (begun_spelled first (inner ∷ outer))

behind_spelled : (whole : Option Aggregate) → Means (initial.behind memory_shape whole) (Each PartSpelled)
unfolding initial.parts
behind_spelled None = nothing tt
behind_spelled (Some whole) =
    follow (chain_means {P = PartSpelled} (true, []) (λ s. piece_spelled s.0 s.1)) (λ ps h. skip _ (λ _. nothing (pushed PartSpelled ps init_parts.End h tt)))

-- ---- initialisers

initialiser_spelled : (s : Written) → Means (initial.initialiser memory_shape (scalar_of s)) (λ i. InitSpelled s (Some i))
unfolding initial.initialiser
initialiser_spelled s = follow (beginning_spelled s) (λ root g. follow (behind_spelled (aggregate_of root)) (λ ps k. nothing (g, k)))

pub value_spelled : (is : Bool) (s : Written) → Means (value memory_shape is (scalar_of s)) (InitSpelled s)
value_spelled true s = nothing tt
value_spelled false s = follow (initialiser_spelled s) (λ i g. nothing g)
