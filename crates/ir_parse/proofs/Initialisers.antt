-- Initialisers that the grammar spells.
use Rattle.std.proofs.Common.{◌≡◌, ℕ, Bool, true, false, List, [], ◌∷◌, Option, Some, None, subst, arith}
use Rattle.std.specs.List.{AllByRecursion as Each}
use Rattle.std.proofs.lemmas.List.Elements.{All-from_recursion}
use Rattle.ir_parse_globals.specs.Constants.{constant, constant_by, number_of, plain, single, type_of}
use Rattle.ir_parse_globals.specs.Initialisers.{aggregate_begin, aggregate_of, array_begin, beginning, begun, behind, bytes, closed, initialiser, listed, packed_begin, part, part_shape, parts, piece, scalar_of, structure_begin, zeros}
use Rattle.ir_parse_globals.specs.declared.initialisers.Aggregate.{Aggregate}
use Rattle.ir_lex.specs.Tok.{Tok}
use Rattle.ir_lex.specs.declared.token_kind.TokenKind.{TokenKind}
use Rattle.ir_lex.specs.declared.token_kind.TokenKind.TheVariants as kinds
use Rattle.ir_parse_parts.proofs.LiteralRange.{literal_fits}
use Rattle.ir_parse_parts.specs.Literals.{literal}
use Rattle.ir_parse_operands.specs.ShapeForms.{memory_shape}
use Rattle.ir_parse_parts.specs.Shapes as written
use Rattle.ir_parse_parts.specs.Shapes.{Written}
use Rattle.ir_parse_parts.specs.declared.raw.InitHead.{InitHead}
use Rattle.ir_parse_parts.specs.declared.raw.InitHead.TheVariants as inits
use Rattle.ir_parse_parts.specs.declared.raw.InitPart.{InitPart}
use Rattle.ir_parse_parts.specs.declared.raw.InitPart.TheVariants as init_parts
use Rattle.ir_parse_parts.specs.Operands.{named}
use Rattle.ir_parse_parts.specs.declared.raw.Operand.TheVariants as operands
use Rattle.ir_tree.specs.Formed.{IsReg, IsResult}
use Rattle.ir_tree.specs.declared.operand.Reg.{Reg}
use Rattle.ir_tree.specs.declared.operand.Reg.TheVariants.{Int, Ptr}
use Rattle.ir_parse.specs.Written.{HeadWritten, InitWritten, PartWritten, ShapeWritten}
use Rattle.ir_parse.specs.Items.{InitShaped, PartShaped}
use Rattle.ir_parse.proofs.Instructions.{stored_width}
use Rattle.ir_parse.proofs.Means.{Means, among_means, chain_means, either_means, follow, nothing, pushed, skip, valued_means}
use Rattle.ir_parse.proofs.Operands.{address_written, mapped, one_bit}
use Rattle.ir_parse.proofs.Shapes.{TypedWritten, shape_written}

-- the scalar that a shape is holds integers that registers hold
pub scalar_written : (s : Written) → ShapeWritten s → IsResult (scalar_of s)
scalar_written (written.int w) h = stored_width w h
scalar_written written.pointer h = tt
scalar_written (written.array n of) h = tt
scalar_written (written.structure packed parts) h = tt
scalar_written (written.named name) h = tt

-- ---- constants

zero_bit : (o : InitHead) → Some (plain (operands.Number 1 0)) ≡ Some o → HeadWritten o
zero_bit o e = let same : plain (operands.Number 1 0) ≡ o = cc in subst HeadWritten same (one_bit, omega arith)

number_written : (scalar : Option Reg) → IsResult scalar → (t : Tok) (o : InitHead) → number_of scalar t ≡ Some o → HeadWritten o
number_written (Some (Int w)) h t o e = let found = mapped (λ (bits : ℕ). plain (operands.Number w bits)) (literal w t.text) o e in subst HeadWritten found.2 (h, literal_fits w t.text found.0 found.1)
number_written (Some Ptr) h t o e = zero_bit o e
number_written None h t o e = let same : inits.Number t ≡ o = cc in subst HeadWritten same tt

type_written : (scalar : Option Reg) → IsResult scalar → IsReg (type_of scalar)
type_written (Some r) h = h
type_written None h = one_bit

constant_class : (head : TokenKind) (scalar : Option Reg) → IsResult scalar → (t : Tok) (o : InitHead) → constant_by head scalar t ≡ Some o → HeadWritten o
constant_class kinds.Number scalar h t o e = number_written scalar h t o e
constant_class kinds.True scalar h t o e = let same : plain (operands.Number 1 1) ≡ o = cc in subst HeadWritten same (one_bit, omega arith)
constant_class kinds.False scalar h t o e = zero_bit o e
constant_class kinds.Null scalar h t o e = let same : plain operands.Null ≡ o = cc in subst HeadWritten same tt
constant_class kinds.Poison scalar h t o e = let same : plain (operands.Poison (type_of scalar)) ≡ o = cc in subst HeadWritten same (type_written scalar h)
constant_class kinds.Global scalar h t o e = let same : plain (operands.Global t) ≡ o = cc in subst HeadWritten same tt
constant_class kinds.NumberedGlobal scalar h t o e = let m = mapped (λ (name : Tok). plain (operands.Global name)) (named t) o e in subst HeadWritten m.2 tt
constant_class kinds.NumberedDefinition scalar h t o e = let m = mapped (λ (name : Tok). plain (operands.Global name)) (named t) o e in subst HeadWritten m.2 tt
constant_class head scalar h t o e = absurd cc

single_written : (scalar : Option Reg) → IsResult scalar → Means (single scalar) HeadWritten
single_written scalar h = valued_means _ _ (λ t o s e. constant_class t.kind scalar h t o e)

constant_written : (scalar : Option Reg) → IsResult scalar → Means (constant memory_shape scalar) HeadWritten
unfolding constant
constant_written scalar h = either_means (follow (address_written memory_shape) (λ v g. nothing g)) (single_written scalar h)

-- ---- beginnings

zeros_written : Means zeros HeadWritten
unfolding zeros
zeros_written = skip _ (λ _. nothing tt)

bytes_written : Means bytes HeadWritten
unfolding bytes
bytes_written = among_means _ _ _ (λ t s c. tt)

array_written : Means array_begin HeadWritten
unfolding array_begin
array_written = skip _ (λ _. nothing tt)

structure_written : Means structure_begin HeadWritten
unfolding structure_begin
structure_written = skip _ (λ _. nothing tt)

packed_written : Means packed_begin HeadWritten
unfolding packed_begin
packed_written = skip _ (λ _. skip _ (λ _. nothing tt))

aggregate_written : Means aggregate_begin HeadWritten
unfolding aggregate_begin
aggregate_written = either_means array_written (either_means structure_written packed_written)

beginning_written : (scalar : Option Reg) → IsResult scalar → Means (beginning memory_shape scalar) HeadWritten
unfolding beginning
beginning_written scalar h = either_means zeros_written (either_means bytes_written (either_means aggregate_written (constant_written scalar h)))

-- ---- parts

part_shape_written : (first : Bool) → Means (part_shape memory_shape first) TypedWritten
part_shape_written true = shape_written
part_shape_written false = skip _ (λ _. shape_written)

part_written : (first : Bool) → Means (part memory_shape first) (λ p. ShapeWritten p.0.shape × HeadWritten p.1)
unfolding part
part_written first = follow (part_shape_written first) (λ typed h. follow (beginning_written (scalar_of typed.shape) (scalar_written typed.shape h)) (λ head g. nothing (h, g)))

-- a part is written, and its shape
abbrev PartRight : InitPart → Type 0
PartRight p = PartWritten p × PartShaped p

begun_written : (first : Bool) (open_ones : List Aggregate) → Means (begun memory_shape first open_ones) (λ x. PartRight x.0)
unfolding begun
begun_written first open_ones = follow (part_written first) (λ p h. nothing (h.1, h.0))

closed_written : (inner : Aggregate) (outer : List Aggregate) → Means (closed inner outer) (λ x. PartRight x.0)
unfolding closed
closed_written inner outer = skip _ (λ _. nothing (tt, tt))

piece_written : (first : Bool) (open_ones : List Aggregate) → Means (piece memory_shape first open_ones) (λ x. PartRight x.0)
piece_written first [] = begun_written first []
piece_written first (inner ∷ outer) = either_means (closed_written inner outer) (begun_written first (inner ∷ outer))

listed_written : Means (listed memory_shape) (Each PartRight)
listed_written = chain_means {P = PartRight} (true, []) (λ s. piece_written s.0 s.1)

parts_written : (whole : Aggregate) → Means (parts memory_shape whole) (Each PartRight)
unfolding parts
parts_written whole = follow listed_written (λ ps h. skip _ (λ _. nothing (pushed PartRight ps init_parts.End h (tt, tt))))

behind_written : (whole : Option Aggregate) → Means (behind memory_shape whole) (Each PartRight)
behind_written None = nothing tt
behind_written (Some whole) = parts_written whole

written_of : (ps : List InitPart) → Each PartRight ps → Each PartWritten ps
written_of [] h = tt
written_of (p ∷ ps) h = (h.0.0, written_of ps h.1)

shaped_of : (ps : List InitPart) → Each PartRight ps → Each PartShaped ps
shaped_of [] h = tt
shaped_of (p ∷ ps) h = (h.0.1, shaped_of ps h.1)

pub initialiser_written : (scalar : Option Reg) → IsResult scalar → Means (initialiser memory_shape scalar) (λ i. InitWritten (Some i) × InitShaped (Some i))
unfolding initialiser
initialiser_written scalar h =
    follow (beginning_written scalar h) (λ root g.
    follow (behind_written (aggregate_of root)) (λ ps k. nothing ((g, All-from_recursion PartWritten ps (written_of ps k)), shaped_of ps k)))
