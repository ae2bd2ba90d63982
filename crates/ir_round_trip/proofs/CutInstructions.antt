-- Instructions as they are printed are read as their tokens.
use Rattle.std.proofs.Common.{◌≡◌, ℕ, Bool, true, false, Option, Some, None, List, [], ◌∷◌, ◌++◌, codes, refl}
use Rattle.std.specs.List.{AllByRecursion as Each}
use Rattle.ir_lex.specs.Bytes.{has}
use Rattle.ir_lex.specs.Pieces.{AllBlank}
use Rattle.ir_tree.specs.Items.{reads, phi_reads, taken_as}
use Rattle.ir_tree.specs.declared.instr.BinaryOp.{BinaryOp}
use Rattle.ir_tree.specs.declared.instr.BinaryOp.TheVariants as binary
use Rattle.ir_tree.specs.declared.instr.CastOp.{CastOp}
use Rattle.ir_tree.specs.declared.instr.CastOp.TheVariants as casts
use Rattle.ir_tree.specs.declared.instr.Flags.{Flags}
use Rattle.ir_tree.specs.declared.instr.Incoming.{Incoming}
use Rattle.ir_tree.specs.declared.instr.Instr.{Instr}
use Rattle.ir_tree.specs.declared.instr.Instr.TheVariants.{Binary, Icmp, Cast, Select, Freeze, Alloca, Load, Store, Address, Call, Phi}
use Rattle.ir_tree.specs.declared.instr.Predicate.{Predicate}
use Rattle.ir_tree.specs.declared.instr.Predicate.TheVariants as predicates
use Rattle.ir_tree.specs.declared.operand.Argument.{Argument}
use Rattle.ir_tree.specs.declared.operand.Operand.{Operand}
use Rattle.ir_tree.specs.declared.operand.Reg.{Reg}
use Rattle.ir_print.specs.Instructions.{opcode, condition, conversion, flags, pointer_to, aligned, both, incoming, further_incoming, all_incoming, arm, phi, instruction, line_of}
use Rattle.ir_print.specs.Tokens.{tight, space, indent, optional}
use Rattle.ir_round_trip.specs.Printable.{OperandPrintable}
use Rattle.ir_round_trip.proofs.Joined.{Fits, then, nothing, spaced, indented, is_free, is_keyword, marked, opened, comma_fits, keyword, width_fits, natural_fits, local_fits}
use Rattle.ir_round_trip.proofs.CutOperands.{ArgumentPrintable, register_fits, result_fits, shape_fits, operand_fits, typed_fits, further_typed_fit, all_typed_fit}
use Rattle.ir_round_trip.proofs.Single.{open_paren, close_paren, open_bracket, close_bracket, equals_mark}

-- ---- words

opcode_word : (op : BinaryOp) → is_keyword (opcode op) ≡ true
unfolding has
opcode_word binary.Add = refl
opcode_word binary.Sub = refl
opcode_word binary.Mul = refl
opcode_word binary.Shl = refl
opcode_word binary.Udiv = refl
opcode_word binary.Sdiv = refl
opcode_word binary.Lshr = refl
opcode_word binary.Ashr = refl
opcode_word binary.Urem = refl
opcode_word binary.Srem = refl
opcode_word binary.And = refl
opcode_word binary.Or = refl
opcode_word binary.Xor = refl

condition_word : (p : Predicate) → is_keyword (condition p) ≡ true
unfolding has
condition_word predicates.Eq = refl
condition_word predicates.Ne = refl
condition_word predicates.Ugt = refl
condition_word predicates.Uge = refl
condition_word predicates.Ult = refl
condition_word predicates.Ule = refl
condition_word predicates.Sgt = refl
condition_word predicates.Sge = refl
condition_word predicates.Slt = refl
condition_word predicates.Sle = refl

conversion_word : (op : CastOp) → is_keyword (conversion op) ≡ true
unfolding has
conversion_word casts.Zext = refl
conversion_word casts.Sext = refl
conversion_word casts.Trunc = refl

pub optional_fits : (text : List ℕ) (b : Bool) → is_keyword text ≡ true → Fits true (optional text b)
optional_fits text true h = keyword space text spaced h
optional_fits text false h = nothing

-- ---- parts

flags_fit : (fs : Flags) → Fits true (flags fs)
unfolding has
flags_fit fs = then (optional_fits (codes "nuw") fs.nuw refl) (then (optional_fits (codes "nsw") fs.nsw refl) (optional_fits (codes "exact") fs.exact refl))

pointer_fits : (x : Operand) → OperandPrintable x → Fits true (pointer_to x)
unfolding has
pointer_fits x p = then (keyword space (codes "ptr") spaced refl) (operand_fits space x spaced p)

pub aligned_fits : (n : ℕ) → Fits true (aligned n)
unfolding has
aligned_fits n = then comma_fits (then (keyword space (codes "align") spaced refl) (natural_fits space n spaced))

both_fit : (x y : Operand) → OperandPrintable x → OperandPrintable y → Fits true (both x y)
both_fit x y p q = then (operand_fits space x spaced p) (then comma_fits (operand_fits space y spaced q))

arm_fits : (a : Argument) → ArgumentPrintable a → Fits true (arm a)
arm_fits a p = then comma_fits (typed_fits space a.reg a.operand spaced p)

incoming_fits : (i : Incoming) → OperandPrintable i.value → Fits true (incoming i)
incoming_fits i p =
    then (marked space 91 spaced open_bracket) (then (operand_fits space i.value spaced p) (then comma_fits (then (local_fits space i.from spaced) (marked space 93 spaced close_bracket))))

further_incoming_fit : (reg : Reg) (is : List Incoming) → Each ArgumentPrintable (taken_as reg is) → Fits true (further_incoming is)
further_incoming_fit reg [] p = nothing
further_incoming_fit reg (i ∷ rest) p = then (then comma_fits (incoming_fits i p.0)) (further_incoming_fit reg rest p.1)

all_incoming_fit : (reg : Reg) (is : List Incoming) → Each ArgumentPrintable (taken_as reg is) → Fits true (all_incoming is)
all_incoming_fit reg [] p = nothing
all_incoming_fit reg (i ∷ rest) p = then (incoming_fits i p.0) (further_incoming_fit reg rest p.1)

pub phi_fits : (blank : List ℕ) (reg : Reg) (is : List Incoming) → AllBlank blank → Each ArgumentPrintable (taken_as reg is) → Fits (is_free blank) (phi blank reg is)
unfolding has
phi_fits blank reg is b p = then (keyword blank (codes "phi") b refl) (then (register_fits space reg spaced) (all_incoming_fit reg is p))

-- ---- instructions

pub each_left : {X : Type 0} (P : X → Type 0) (xs ys : List X) → Each P (xs ++ ys) → Each P xs
each_left P [] ys h = tt
each_left P (x ∷ xs) ys h = (h.0, each_left P xs ys h.1)

pub each_right : {X : Type 0} (P : X → Type 0) (xs ys : List X) → Each P (xs ++ ys) → Each P ys
each_right P [] ys h = h
each_right P (x ∷ xs) ys h = each_right P xs ys h.1

pub instruction_fits : (blank : List ℕ) (i : Instr) → AllBlank blank → Each ArgumentPrintable (reads i ++ phi_reads i) → Fits (is_free blank) (instruction blank i)
unfolding has
instruction_fits blank (Binary op fs w x y) b p = then (keyword blank (opcode op) b (opcode_word op)) (then (flags_fit fs) (then (width_fits space w spaced) (both_fit x y p.0 p.1.0)))
instruction_fits blank (Icmp predicate reg x y) b p =
    then (keyword blank (codes "icmp") b refl) (then (keyword space (condition predicate) spaced (condition_word predicate)) (then (register_fits space reg spaced) (both_fit x y p.0 p.1.0)))
instruction_fits blank (Cast op from x to) b p =
    then (keyword blank (conversion op) b (conversion_word op)) (then (typed_fits space from x spaced p.0) (then (keyword space (codes "to") spaced refl) (register_fits space to spaced)))
instruction_fits blank (Select c x y) b p =
    then (keyword blank (codes "select") b refl) (then (width_fits space 1 spaced) (then (operand_fits space c spaced p.0) (then (arm_fits x p.1.0) (arm_fits y p.1.1.0))))
instruction_fits blank (Freeze reg x) b p = then (keyword blank (codes "freeze") b refl) (typed_fits space reg x spaced p.0)
instruction_fits blank (Alloca form align) b p = then (keyword blank (codes "alloca") b refl) (then (shape_fits space form spaced) (aligned_fits align))
instruction_fits blank (Load reg address align) b p =
    then (keyword blank (codes "load") b refl) (then (register_fits space reg spaced) (then comma_fits (then (pointer_fits address p.0) (aligned_fits align))))
instruction_fits blank (Store reg x address align) b p =
    then (keyword blank (codes "store") b refl) (then (typed_fits space reg x spaced p.0) (then comma_fits (then (pointer_fits address p.1.0) (aligned_fits align))))
instruction_fits blank (Address inbounds form base indices) b p =
    then (keyword blank (codes "getelementptr") b refl) (then (optional_fits (codes "inbounds") inbounds refl) (then (shape_fits space form spaced) (then comma_fits
    (then (pointer_fits base p.0) (further_typed_fit indices (each_left ArgumentPrintable indices [] p.1))))))
instruction_fits blank (Call answer callee arguments) b p =
    then (keyword blank (codes "call") b refl) (then (result_fits answer) (then (operand_fits space callee spaced p.0)
    (opened tight 40 tt open_paren (then (all_typed_fit arguments (each_left ArgumentPrintable arguments [] p.1)) (marked tight 41 tt close_paren)))))
instruction_fits blank (Phi reg edges) b p = phi_fits blank reg edges b p

pub line_fits : (local : Option ℕ) (i : Instr) → Each ArgumentPrintable (reads i ++ phi_reads i) → Fits true (line_of local i)
line_fits None i p = instruction_fits indent i indented p
line_fits (Some n) i p = then (local_fits indent n indented) (then (marked space 61 spaced equals_mark) (instruction_fits space i spaced p))
