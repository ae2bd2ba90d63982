-- Instructions as they are printed (LangRef, "Instruction Reference").
use Rattle.std.specs.Prelude.{ℕ, Bool, List, [], ◌∷◌, ◌++◌, Option, Some, None, codes}
use Rattle.ir_lex.specs.Pieces.{Piece}
use Rattle.ir_tree.specs.Forms.{Form}
use Rattle.ir_tree.specs.declared.instr.BinaryOp.{BinaryOp}
use Rattle.ir_tree.specs.declared.instr.BinaryOp.TheVariants as binary
use Rattle.ir_tree.specs.declared.instr.CastOp.{CastOp}
use Rattle.ir_tree.specs.declared.instr.CastOp.TheVariants as casts
use Rattle.ir_tree.specs.declared.instr.Flags.{Flags}
use Rattle.ir_tree.specs.declared.instr.Incoming.{Incoming}
use Rattle.ir_tree.specs.declared.instr.Instr.{Instr}
use Rattle.ir_tree.specs.declared.instr.Instr.TheVariants.{Binary, Icmp, Cast, Select, Freeze, Alloca, Load, Store, Address, Call, Phi}
use Rattle.ir_tree.specs.declared.instr.Line.{Line}
use Rattle.ir_tree.specs.declared.instr.Predicate.{Predicate}
use Rattle.ir_tree.specs.declared.instr.Predicate.TheVariants as predicates
use Rattle.ir_tree.specs.declared.operand.Argument.{Argument}
use Rattle.ir_tree.specs.declared.operand.Operand.{Operand}
use Rattle.ir_tree.specs.declared.operand.Reg.{Reg}
use Rattle.ir_print.specs.Tokens.{tight, space, indent, word, mark, comma, local, width, natural, optional}
use Rattle.ir_print.specs.Types.{register, result, shape}
use Rattle.ir_print.specs.Operands.{operand, typed, further_typed, all_typed}

abbrev pub opcode : BinaryOp → List ℕ
opcode binary.Add = codes "add"
opcode binary.Sub = codes "sub"
opcode binary.Mul = codes "mul"
opcode binary.Shl = codes "shl"
opcode binary.Udiv = codes "udiv"
opcode binary.Sdiv = codes "sdiv"
opcode binary.Lshr = codes "lshr"
opcode binary.Ashr = codes "ashr"
opcode binary.Urem = codes "urem"
opcode binary.Srem = codes "srem"
opcode binary.And = codes "and"
opcode binary.Or = codes "or"
opcode binary.Xor = codes "xor"

abbrev pub condition : Predicate → List ℕ
condition predicates.Eq = codes "eq"
condition predicates.Ne = codes "ne"
condition predicates.Ugt = codes "ugt"
condition predicates.Uge = codes "uge"
condition predicates.Ult = codes "ult"
condition predicates.Ule = codes "ule"
condition predicates.Sgt = codes "sgt"
condition predicates.Sge = codes "sge"
condition predicates.Slt = codes "slt"
condition predicates.Sle = codes "sle"

abbrev pub conversion : CastOp → List ℕ
conversion casts.Zext = codes "zext"
conversion casts.Sext = codes "sext"
conversion casts.Trunc = codes "trunc"

abbrev pub flags : Flags → List Piece
flags fs = optional (codes "nuw") fs.nuw ++ (optional (codes "nsw") fs.nsw ++ optional (codes "exact") fs.exact)

-- ptr x
abbrev pub pointer_to : Operand → List Piece
pointer_to x = word space (codes "ptr") ++ operand space x

-- , align N
abbrev pub aligned : ℕ → List Piece
aligned n = comma ++ (word space (codes "align") ++ natural space n)

-- x, y
abbrev pub both : Operand → Operand → List Piece
both x y = operand space x ++ (comma ++ operand space y)

-- [ x, %b ]
abbrev pub incoming : Incoming → List Piece
incoming i = mark space 91 ++ (operand space i.value ++ (comma ++ (local space i.from ++ mark space 93)))

abbrev pub further_incoming : List Incoming → List Piece
further_incoming [] = []
further_incoming (i ∷ rest) = (comma ++ incoming i) ++ further_incoming rest

abbrev pub all_incoming : List Incoming → List Piece
all_incoming [] = []
all_incoming (i ∷ rest) = incoming i ++ further_incoming rest

-- , T x
abbrev pub arm : Argument → List Piece
arm a = comma ++ typed space a.reg a.operand

abbrev pub phi : List ℕ → Reg → List Incoming → List Piece
phi blank reg edges = word blank (codes "phi") ++ (register space reg ++ all_incoming edges)

abbrev pub instruction : List ℕ → Instr → List Piece
instruction blank (Binary op fs w x y) = word blank (opcode op) ++ (flags fs ++ (width space w ++ both x y))
instruction blank (Icmp predicate reg x y) =
    word blank (codes "icmp") ++ (word space (condition predicate) ++ (register space reg ++ both x y))
instruction blank (Cast op from x to) =
    word blank (conversion op) ++ (typed space from x ++ (word space (codes "to") ++ register space to))
instruction blank (Select c a b) =
    word blank (codes "select") ++ (width space 1 ++ (operand space c ++ (arm a ++ arm b)))
instruction blank (Freeze reg x) = word blank (codes "freeze") ++ typed space reg x
instruction blank (Alloca form align) = word blank (codes "alloca") ++ (shape space form ++ aligned align)
instruction blank (Load reg address align) =
    word blank (codes "load") ++ (register space reg ++ (comma ++ (pointer_to address ++ aligned align)))
instruction blank (Store reg x address align) =
    word blank (codes "store") ++ (typed space reg x ++ (comma ++ (pointer_to address ++ aligned align)))
instruction blank (Address inbounds form base indices) =
    word blank (codes "getelementptr") ++ (optional (codes "inbounds") inbounds ++ (shape space form ++ (comma ++ (pointer_to base ++ further_typed indices))))
instruction blank (Call answer callee arguments) =
    word blank (codes "call") ++ (result answer ++ (operand space callee ++ (mark tight 40 ++ (all_typed arguments ++ mark tight 41))))
instruction blank (Phi reg edges) = phi blank reg edges

abbrev pub line_of : Option ℕ → Instr → List Piece
line_of None i = instruction indent i
line_of (Some n) i = local indent n ++ (mark space 61 ++ instruction space i)

abbrev pub lines : List Line → List Piece
lines [] = []
lines (l ∷ rest) = line_of l.local l.instr ++ lines rest
