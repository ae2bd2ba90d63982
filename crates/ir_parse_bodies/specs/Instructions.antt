-- Instructions (LangRef, "Binary Operations", "Bitwise Binary Operations", "Conversion Operations", "Memory Access and
-- Addressing Operations", "Other Operations").
use Rattle.std.specs.Prelude.{ℕ, Bool, true, false, nat_eq, List, [], ◌∷◌}
use Rattle.std.specs.List.{fold}
use Rattle.ir_lex.specs.declared.token_kind.TokenKind.{TokenKind}
use Rattle.ir_lex.specs.declared.token_kind.TokenKind.TheVariants as kinds
use Rattle.ir_lex.specs.TokenKinds.{number}
use Rattle.ir_lex.specs.Tok.{Tok}
use Rattle.ir_tree.specs.declared.instr.BinaryOp.{BinaryOp}
use Rattle.ir_tree.specs.declared.instr.BinaryOp.TheVariants as ops
use Rattle.ir_tree.specs.declared.instr.CastOp.{CastOp}
use Rattle.ir_tree.specs.declared.instr.Flags.{Flags}
use Rattle.ir_tree.specs.declared.instr.Predicate.{Predicate}
use Rattle.ir_tree.specs.declared.instr.Predicate.TheVariants as predicates
use Rattle.ir_tree.specs.declared.operand.Reg.TheVariants.{Int, Ptr}
use Rattle.ir_parse_parts.specs.Forms.{Form, ◌>>=◌, gives, Star}
use Rattle.ir_parse_parts.specs.Ahead.{WRAPS}
use Rattle.ir_parse_parts.specs.Classes.{the, one_of}
use Rattle.ir_parse_parts.specs.declared.raw.Instr.{Instr}
use Rattle.ir_parse_parts.specs.declared.raw.Instr.TheVariants as instrs
use Rattle.ir_parse_parts.specs.declared.shape.Typed.{Typed}
use Rattle.ir_parse_parts.specs.Operands.{reg, integer, bit, scalar, maybe}
use Rattle.ir_parse_operands.specs.Alignments.{align}
use Rattle.ir_parse_operands.specs.Values.{pointer, operand, argument}

-- ---- flags

abbrev pub is_nuw : Tok → Bool
is_nuw t = nat_eq (number t.kind) (number kinds.Nuw)

abbrev pub flags : Bool → Bool → Bool → Flags
flags nuw nsw exact = record { nuw = nuw; nsw = nsw; exact = exact }

abbrev pub with_wrap : Flags → Bool → Flags
with_wrap f true = flags true f.nsw f.exact
with_wrap f false = flags f.nuw true f.exact

abbrev pub no_flags : Flags
no_flags = flags false false false

-- {nuw/nsw}
unfoldable pub wraps : Form Tok Flags
wraps = do
  fs ← Star (one_of WRAPS is_nuw)
  gives (fold with_wrap no_flags fs)

-- ---- on integers

-- iN operand , operand
unfoldable pub on_two : Form Tok Typed → BinaryOp → Flags → Form Tok Instr
on_two shape op f = do
  w ← integer
  left ← operand shape (Int w)
  _ ← the kinds.Comma
  right ← operand shape (Int w)
  gives (instrs.Binary op f w left right)

-- {nuw/nsw} iN operand , operand
unfoldable pub wrapping : Form Tok Typed → BinaryOp → Form Tok Instr
wrapping shape op = do
  f ← wraps
  on_two shape op f

-- [exact] iN operand , operand
unfoldable pub dividing : Form Tok Typed → BinaryOp → Form Tok Instr
dividing shape op = do
  exact ← maybe kinds.Exact
  on_two shape op (flags false false exact)

-- [disjoint] iN operand , operand
unfoldable pub joining : Form Tok Typed → Form Tok Instr
joining shape = do
  _ ← maybe kinds.Disjoint
  on_two shape ops.Or no_flags

abbrev pub PREDICATES : List ℕ
PREDICATES = number kinds.Eq ∷ number kinds.Ne ∷ number kinds.Ugt ∷ number kinds.Uge ∷ number kinds.Ult ∷ number kinds.Ule ∷ number kinds.Sgt ∷ number kinds.Sge ∷ number kinds.Slt ∷ number kinds.Sle ∷ []

abbrev pub predicate_by : TokenKind → Predicate
predicate_by kinds.Ne = predicates.Ne
predicate_by kinds.Ugt = predicates.Ugt
predicate_by kinds.Uge = predicates.Uge
predicate_by kinds.Ult = predicates.Ult
predicate_by kinds.Ule = predicates.Ule
predicate_by kinds.Sgt = predicates.Sgt
predicate_by kinds.Sge = predicates.Sge
predicate_by kinds.Slt = predicates.Slt
predicate_by kinds.Sle = predicates.Sle
predicate_by h = predicates.Eq

abbrev pub predicate_of : Tok → Predicate
predicate_of t = predicate_by t.kind

-- [samesign] predicate reg operand , operand
unfoldable pub comparing : Form Tok Typed → Form Tok Instr
comparing shape = do
  _ ← maybe kinds.Samesign
  p ← one_of PREDICATES predicate_of
  r ← reg
  left ← operand shape r
  _ ← the kinds.Comma
  right ← operand shape r
  gives (instrs.Icmp p r left right)

-- reg operand to reg
unfoldable pub casting : Form Tok Typed → CastOp → Form Tok Instr
casting shape op = do
  from ← reg
  value ← operand shape from
  _ ← the kinds.To
  to ← reg
  gives (instrs.Cast op from value to)

-- [nneg] reg operand to reg
unfoldable pub extending : Form Tok Typed → CastOp → Form Tok Instr
extending shape op = do
  _ ← maybe kinds.Nneg
  casting shape op

-- {nuw/nsw} reg operand to reg
unfoldable pub narrowing : Form Tok Typed → CastOp → Form Tok Instr
narrowing shape op = do
  _ ← wraps
  casting shape op

-- ---- on any values

-- i1 operand , reg operand , reg operand
unfoldable pub selecting : Form Tok Typed → Form Tok Instr
selecting shape = do
  w ← bit
  condition ← operand shape (Int w)
  _ ← the kinds.Comma
  one ← argument shape
  _ ← the kinds.Comma
  other ← argument shape
  gives (instrs.Select condition one other)

-- reg operand
unfoldable pub freezing : Form Tok Typed → Form Tok Instr
freezing shape = do
  r ← reg
  value ← operand shape r
  gives (instrs.Freeze r value)

-- ---- memory

-- scalar , ptr operand [, align N] {att}
unfoldable pub loading : Form Tok Typed → Form Tok Instr
loading shape = do
  r ← scalar
  _ ← the kinds.Comma
  _ ← pointer
  address ← operand shape Ptr
  n ← align
  gives (instrs.Load r address n)

-- scalar operand , ptr operand [, align N] {att}
unfoldable pub storing : Form Tok Typed → Form Tok Instr
storing shape = do
  r ← scalar
  value ← operand shape r
  _ ← the kinds.Comma
  _ ← pointer
  address ← operand shape Ptr
  n ← align
  gives (instrs.Store r value address n)
