-- What stands behind the word of an instruction is read (LangRef, "Binary Operations", "icmp Instruction", "Conversion
-- Operations", "select Instruction", "freeze Instruction", "load Instruction", "store Instruction").
use Rattle.std.proofs.Common.{◌≡◌, ℕ, ◌^◌, ◌<◌, ◌≤◌, Bool, true, false, not, ◌&&◌, nat_eq, Some, List, [], ◌∷◌, ◌++◌, codes, refl, sym, ap, subst, ◌∙◌}
use Rattle.std.specs.List.{fold}
use Rattle.ir_lex.specs.TokenKinds.{number, kind_of, word_kind, listed_kind, words_3}
use Rattle.ir_lex.specs.Pieces.{Piece}
use Rattle.ir_lex.specs.Tok.{Tok}
use Rattle.ir_lex.specs.declared.token_kind.TokenKind.{TokenKind}
use Rattle.ir_lex.specs.declared.token_kind.TokenKind.TheVariants as kinds
use Rattle.ir_lex.specs.declared.token.TokenForm.TheVariants as forms
use Rattle.ir_print.specs.Instructions as printed
use Rattle.ir_print.specs.Instructions.{opcode, condition, conversion, both, arm, pointer_to}
use Rattle.ir_print.specs.Operands.{operand, typed}
use Rattle.ir_print.specs.Tokens.{space, word, width, natural, comma, optional}
use Rattle.ir_print.specs.Types.{register}
use Rattle.ir_parse_parts.specs.Ahead.{WRAPS}
use Rattle.ir_parse_parts.specs.Classes.{refusal, the, one_of}
use Rattle.ir_parse_parts.specs.Decimals as read_decimal
use Rattle.ir_parse_bodies.specs.Instructions as read
use Rattle.ir_parse_bodies.specs.Instructions.{is_nuw, with_wrap, no_flags, on_two, wrapping, dividing, joining, PREDICATES, predicate_by, predicate_of, comparing, casting, extending, narrowing, selecting, freezing, loading, storing, wraps}
use Rattle.ir_parse_operands.specs.Alignments.{align, aligned}
use Rattle.ir_parse_parts.specs.Metadata.{attachments}
use Rattle.ir_parse_parts.specs.Operands.{maybe}
use Rattle.ir_parse_operands.specs.ShapeForms.{memory_shape}
use Rattle.ir_parse_parts.specs.declared.raw.Instr.{Instr}
use Rattle.ir_tree.specs.Formed.{IsWidth, IsReg, IsScalar, IsAlignment, FlagsFormed}
use Rattle.ir_tree.specs.declared.instr.BinaryOp.{BinaryOp}
use Rattle.ir_tree.specs.declared.instr.BinaryOp.TheVariants as binary
use Rattle.ir_tree.specs.declared.instr.CastOp.{CastOp}
use Rattle.ir_tree.specs.declared.instr.CastOp.TheVariants as casts
use Rattle.ir_tree.specs.declared.instr.Flags.{Flags}
use Rattle.ir_tree.specs.declared.instr.Instr.TheVariants.{Binary, Icmp, Cast, Select, Freeze, Load, Store}
use Rattle.ir_tree.specs.declared.instr.Predicate.{Predicate}
use Rattle.ir_tree.specs.declared.instr.Predicate.TheVariants as predicates
use Rattle.ir_tree.specs.declared.operand.Argument.{Argument}
use Rattle.ir_tree.specs.declared.operand.Operand.{Operand}
use Rattle.ir_tree.specs.declared.operand.Reg.{Reg}
use Rattle.ir_tree.specs.declared.operand.Reg.TheVariants.{Int, Ptr}
use Rattle.ir_parse_parts.specs.Alphabet.{contains}
use Rattle.ir_parse_parts.specs.declared.fault.TokenFault.TheVariants as faults
use Rattle.ir_parse_parts.specs.Forms.{Form, Star}
use Rattle.ir_round_trip.specs.Classes.{binary_class, predicate_class, cast_class}
use Rattle.ir_round_trip.proofs.Classes.{opcode_class, condition_class, conversion_class}
use Rattle.ir_round_trip.specs.Behind.{behind_opcode, behind_conversion}
use Rattle.ir_round_trip.specs.PartsPrinted.{IsInstr}
use Rattle.ir_round_trip.specs.PartsReadable.{OperandReadable, ArgumentReadable}
use Rattle.ir_round_trip.specs.Reads.{Parses, Any}
use Rattle.ir_round_trip.proofs.Composed.{then, next, last, nothing, regroup, left, right, no_more, one_more}
use Rattle.ir_round_trip.proofs.PartsOperands.{operand_read, argument_read}
use Rattle.ir_round_trip.proofs.Tokens.{NonEmpty, single, piece_read, by_class, by_classes}
use Rattle.ir_round_trip.proofs.Types.{integer_read, bit_read, register_read, scalar_read, pointer_read}
use Rattle.ir_round_trip.proofs.Words.{comma_read, to_read, align_read, exact_read}
use Rattle.ir_round_trip.proofs.Alignments.{alignment_read}

-- ---- words of operations

nonempty : (c : ℕ) (cs : List ℕ) → NonEmpty (c ∷ cs)
nonempty c cs = record { first = c; others = cs; whole = refl }

opcode_nonempty : (op : BinaryOp) → NonEmpty (opcode op)
opcode_nonempty binary.Add = nonempty _ _
opcode_nonempty binary.Sub = nonempty _ _
opcode_nonempty binary.Mul = nonempty _ _
opcode_nonempty binary.Shl = nonempty _ _
opcode_nonempty binary.Udiv = nonempty _ _
opcode_nonempty binary.Sdiv = nonempty _ _
opcode_nonempty binary.Lshr = nonempty _ _
opcode_nonempty binary.Ashr = nonempty _ _
opcode_nonempty binary.Urem = nonempty _ _
opcode_nonempty binary.Srem = nonempty _ _
opcode_nonempty binary.And = nonempty _ _
opcode_nonempty binary.Or = nonempty _ _
opcode_nonempty binary.Xor = nonempty _ _

pub opcode_read : (blank : List ℕ) (op : BinaryOp) → Parses (the (binary_class op)) Any (word blank (opcode op))
opcode_read blank op = piece_read blank forms.Word (opcode op) (opcode_nonempty op) (by_class refusal (binary_class op) forms.Word (opcode op) (ap number (opcode_class op)))

conversion_nonempty : (op : CastOp) → NonEmpty (conversion op)
conversion_nonempty casts.Zext = nonempty _ _
conversion_nonempty casts.Sext = nonempty _ _
conversion_nonempty casts.Trunc = nonempty _ _

pub conversion_read : (blank : List ℕ) (op : CastOp) → Parses (the (cast_class op)) Any (word blank (conversion op))
conversion_read blank op = piece_read blank forms.Word (conversion op) (conversion_nonempty op) (by_class refusal (cast_class op) forms.Word (conversion op) (ap number (conversion_class op)))

condition_nonempty : (p : Predicate) → NonEmpty (condition p)
condition_nonempty predicates.Eq = nonempty _ _
condition_nonempty predicates.Ne = nonempty _ _
condition_nonempty predicates.Ugt = nonempty _ _
condition_nonempty predicates.Uge = nonempty _ _
condition_nonempty predicates.Ult = nonempty _ _
condition_nonempty predicates.Ule = nonempty _ _
condition_nonempty predicates.Sgt = nonempty _ _
condition_nonempty predicates.Sge = nonempty _ _
condition_nonempty predicates.Slt = nonempty _ _
condition_nonempty predicates.Sle = nonempty _ _

predicate_there : (p : Predicate) → (contains PREDICATES (number (predicate_class p)) ≡ true) × (predicate_by (predicate_class p) ≡ p)
predicate_there predicates.Eq = (refl, refl)
predicate_there predicates.Ne = (refl, refl)
predicate_there predicates.Ugt = (refl, refl)
predicate_there predicates.Uge = (refl, refl)
predicate_there predicates.Ult = (refl, refl)
predicate_there predicates.Ule = (refl, refl)
predicate_there predicates.Sgt = (refl, refl)
predicate_there predicates.Sge = (refl, refl)
predicate_there predicates.Slt = (refl, refl)
predicate_there predicates.Sle = (refl, refl)

predicate_read : (p : Predicate) → Parses (one_of PREDICATES predicate_of) (λ q. q ≡ p) (word space (condition p))
predicate_read p =
    piece_read space forms.Word (condition p) (condition_nonempty p) (by_classes refusal PREDICATES predicate_of forms.Word (condition p) (ap (λ (h : TokenKind). contains PREDICATES (number h)) (condition_class p) ∙ (predicate_there p).0)
    (λ t i. ap predicate_by (i.kind ∙ condition_class p) ∙ (predicate_there p).1))

-- ---- words that may stand or not

pub left_out : (h : TokenKind) → Parses (maybe h) (λ b. b ≡ false) []
left_out h = right _ (nothing refl)

exactly : (b : Bool) → Parses (maybe kinds.Exact) (λ x. x ≡ b) (optional (codes "exact") b)
exactly true = left _ (last (exact_read space) (λ a u. nothing refl))
exactly false = left_out kinds.Exact

nuw_read : Parses (one_of WRAPS is_nuw) (λ b. b ≡ true) (word space (codes "nuw"))
unfolding kind_of word_kind listed_kind words_3
nuw_read = single space forms.Word _ _ (by_classes refusal WRAPS is_nuw forms.Word (codes "nuw") refl (λ t i. ap (λ (h : TokenKind). nat_eq (number h) (number kinds.Nuw)) i.kind))

nsw_read : Parses (one_of WRAPS is_nuw) (λ b. b ≡ false) (word space (codes "nsw"))
unfolding kind_of word_kind listed_kind words_3
nsw_read = single space forms.Word _ _ (by_classes refusal WRAPS is_nuw forms.Word (codes "nsw") refl (λ t i. ap (λ (h : TokenKind). nat_eq (number h) (number kinds.Nuw)) i.kind))

abbrev is_wraps : List Bool → List Bool → Type 0
is_wraps want bs = bs ≡ want

with_word : {want : List Bool} {b : Bool} {ps qs : List Piece} → Parses (one_of WRAPS is_nuw) (λ x. x ≡ b) ps → Parses (Star (one_of WRAPS is_nuw)) (is_wraps want) qs → Parses (Star (one_of WRAPS is_nuw)) (is_wraps (b ∷ want)) (ps ++ qs)
with_word {want} {b} p q = one_more p q (λ a more e f. ap (λ (x : Bool). x ∷ more) e ∙ ap (λ (xs : List Bool). b ∷ xs) f)

-- nothing behind an attachment's place
pub no_attachments : Parses attachments Any []
unfolding attachments
no_attachments = last (no_more {P = Any} tt) (λ all u. nothing tt)

wraps_as : {want : List Bool} {f : Flags} {ps : List Piece} → fold with_wrap no_flags want ≡ f → Parses (Star (one_of WRAPS is_nuw)) (is_wraps want) ps → Parses wraps (λ g. g ≡ f) ps
unfolding wraps
wraps_as e r = last r (λ bs h. nothing (ap (fold with_wrap no_flags) h ∙ e))

no_words : Parses (Star (one_of WRAPS is_nuw)) (is_wraps []) []
no_words = no_more refl

wraps_read : (nuw nsw : Bool) → Parses wraps (λ g. g ≡ read.flags nuw nsw false) (optional (codes "nuw") nuw ++ (optional (codes "nsw") nsw ++ []))
wraps_read true true = wraps_as refl (with_word nuw_read (with_word nsw_read no_words))
wraps_read true false = wraps_as refl (with_word nuw_read no_words)
wraps_read false true = wraps_as refl (with_word nsw_read no_words)
wraps_read false false = wraps_as refl no_words

-- flags are their three words
abbrev flag_pieces : Bool → Bool → Bool → List Piece
flag_pieces nuw nsw exact = optional (codes "nuw") nuw ++ (optional (codes "nsw") nsw ++ optional (codes "exact") exact)

wraps_of : (fs : Flags) → fs.exact ≡ false → Parses wraps (λ g. g ≡ fs) (printed.flags fs)
wraps_of fs e = subst (λ (x : Bool). Parses wraps (λ g. g ≡ read.flags fs.nuw fs.nsw x) (flag_pieces fs.nuw fs.nsw x)) (sym e) (wraps_read fs.nuw fs.nsw)

-- ---- on integers

module _ (w : ℕ) (x y : Operand) (width_is : IsWidth w) (p : OperandReadable (Int w) x) (q : OperandReadable (Int w) y) where
  two_read : (op : BinaryOp) (fs : Flags) → Parses (on_two memory_shape op fs) (IsInstr (Binary op fs w x y)) (width space w ++ both x y)
  unfolding on_two
  two_read op fs = next _ (integer_read space w width_is) (then (operand_read space (Int w) x p) (λ l h. then comma_read (λ a u. last (operand_read space (Int w) y q) (λ r k. nothing (refl, refl, refl, h, k)))))

  wrapping_read : (op : BinaryOp) (fs : Flags) → fs.exact ≡ false → Parses (wrapping memory_shape op) (IsInstr (Binary op fs w x y)) (printed.flags fs ++ (width space w ++ both x y))
  unfolding wrapping
  wrapping_read op fs e = next _ (wraps_of fs e) (two_read op fs)

  dividing_read : (op : BinaryOp) (fs : Flags) → fs.nuw ≡ false → fs.nsw ≡ false → Parses (dividing memory_shape op) (IsInstr (Binary op fs w x y)) (printed.flags fs ++ (width space w ++ both x y))
  unfolding dividing
  dividing_read op fs e f =
      subst (λ (a : Bool). Parses (dividing memory_shape op) (IsInstr (Binary op (read.flags a fs.nsw fs.exact) w x y)) (flag_pieces a fs.nsw fs.exact ++ (width space w ++ both x y))) (sym e)
      (subst (λ (b : Bool). Parses (dividing memory_shape op) (IsInstr (Binary op (read.flags false b fs.exact) w x y)) (flag_pieces false b fs.exact ++ (width space w ++ both x y))) (sym f)
      (next _ (exactly fs.exact) (two_read op (read.flags false false fs.exact))))

  unflagged : {g : Form Tok Instr} (op : BinaryOp) (fs : Flags) → (fs.nuw ≡ false) × (fs.nsw ≡ false) × (fs.exact ≡ false) → Parses g (IsInstr (Binary op no_flags w x y)) (width space w ++ both x y) → Parses g (IsInstr (Binary op fs w x y)) (printed.flags fs ++ (width space w ++ both x y))
  unflagged {g} op fs e r =
      subst (λ (a : Bool). Parses g (IsInstr (Binary op (read.flags a fs.nsw fs.exact) w x y)) (flag_pieces a fs.nsw fs.exact ++ (width space w ++ both x y))) (sym e.0)
      (subst (λ (b : Bool). Parses g (IsInstr (Binary op (read.flags false b fs.exact) w x y)) (flag_pieces false b fs.exact ++ (width space w ++ both x y))) (sym e.1)
      (subst (λ (c : Bool). Parses g (IsInstr (Binary op (read.flags false false c) w x y)) (flag_pieces false false c ++ (width space w ++ both x y))) (sym e.2) r))

  joining_read : Parses (joining memory_shape) (IsInstr (Binary binary.Or no_flags w x y)) (width space w ++ both x y)
  unfolding joining
  joining_read = then (left_out kinds.Disjoint) (λ b e. two_read binary.Or no_flags)

  pub binary_read : (op : BinaryOp) (fs : Flags) → FlagsFormed op fs → Parses (behind_opcode op) (IsInstr (Binary op fs w x y)) (printed.flags fs ++ (width space w ++ both x y))
  binary_read binary.Add fs h = wrapping_read binary.Add fs h
  binary_read binary.Sub fs h = wrapping_read binary.Sub fs h
  binary_read binary.Mul fs h = wrapping_read binary.Mul fs h
  binary_read binary.Shl fs h = wrapping_read binary.Shl fs h
  binary_read binary.Udiv fs h = dividing_read binary.Udiv fs h.0 h.1
  binary_read binary.Sdiv fs h = dividing_read binary.Sdiv fs h.0 h.1
  binary_read binary.Lshr fs h = dividing_read binary.Lshr fs h.0 h.1
  binary_read binary.Ashr fs h = dividing_read binary.Ashr fs h.0 h.1
  binary_read binary.Urem fs h = unflagged binary.Urem fs h (two_read binary.Urem no_flags)
  binary_read binary.Srem fs h = unflagged binary.Srem fs h (two_read binary.Srem no_flags)
  binary_read binary.And fs h = unflagged binary.And fs h (two_read binary.And no_flags)
  binary_read binary.Or fs h = unflagged binary.Or fs h joining_read
  binary_read binary.Xor fs h = unflagged binary.Xor fs h (two_read binary.Xor no_flags)

pub icmp_read : (predicate : Predicate) (reg : Reg) (x y : Operand) → IsReg reg → OperandReadable reg x → OperandReadable reg y → Parses (comparing memory_shape) (IsInstr (Icmp predicate reg x y)) (word space (condition predicate) ++ (register space reg ++ both x y))
unfolding comparing
icmp_read predicate reg x y r p q =
    then (left_out kinds.Samesign) (λ b e. next _ (predicate_read predicate) (next _ (register_read space reg r)
    (then (operand_read space reg x p) (λ l h. then comma_read (λ a u. last (operand_read space reg y q) (λ m k. nothing (refl, refl, h, k)))))))

-- ---- conversions

casting_read : (op : CastOp) (from : Reg) (x : Operand) (to : Reg) → IsReg from → OperandReadable from x → IsReg to → Parses (casting memory_shape op) (IsInstr (Cast op from x to)) (typed space from x ++ (word space (codes "to") ++ register space to))
unfolding casting
casting_read op from x to r p s =
    regroup (register space from) _ _
    (next _ (register_read space from r) (then (operand_read space from x p) (λ v h. then (to_read space) (λ a u. last (register_read space to s) (λ g e. nothing (refl, refl, h, e))))))

pub cast_read : (op : CastOp) (from : Reg) (x : Operand) (to : Reg) → IsReg from → OperandReadable from x → IsReg to → Parses (behind_conversion op) (IsInstr (Cast op from x to)) (typed space from x ++ (word space (codes "to") ++ register space to))
unfolding extending narrowing
cast_read casts.Zext from x to r p s = then (left_out kinds.Nneg) (λ b e. casting_read casts.Zext from x to r p s)
cast_read casts.Sext from x to r p s = then (left_out kinds.Nneg) (λ b e. casting_read casts.Sext from x to r p s)
cast_read casts.Trunc from x to r p s = then (wraps_as {f = no_flags} refl no_words) (λ f e. casting_read casts.Trunc from x to r p s)

-- ---- on any values

pub select_read : (c : Operand) (a b : Argument) → OperandReadable (Int 1) c → ArgumentReadable a → ArgumentReadable b → Parses (selecting memory_shape) (IsInstr (Select c a b)) (width space 1 ++ (operand space c ++ (arm a ++ arm b)))
unfolding selecting
select_read c a b p q r =
    next _ (bit_read space) (then (operand_read space (Int 1) c p) (λ x h. then comma_read (λ d u. then (argument_read space a q) (λ y k. then comma_read (λ e v. last (argument_read space b r) (λ z l. nothing (h, k, l)))))))

pub freeze_read : (reg : Reg) (x : Operand) → IsReg reg → OperandReadable reg x → Parses (freezing memory_shape) (IsInstr (Freeze reg x)) (typed space reg x)
unfolding freezing
freeze_read reg x r p = next _ (register_read space reg r) (last (operand_read space reg x p) (λ v h. nothing (refl, h)))

-- ---- alignments

-- align N
pub aligned_read : (n : ℕ) → IsAlignment n → Parses aligned (λ a. a ≡ Some n) (word space (codes "align") ++ natural space n)
unfolding aligned
aligned_read n h = left _ (then (align_read space) (λ a u. last (alignment_read n h) (λ m e. then no_attachments (λ b v. nothing (ap Some e)))))

pub align_behind : (n : ℕ) → IsAlignment n → Parses align (λ a. a ≡ Some n) (printed.aligned n)
unfolding align
align_behind n h = left _ (then comma_read (λ a u. aligned_read n h))

-- ---- memory

pub load_read : (reg : Reg) (address : Operand) (n : ℕ) → IsScalar reg → OperandReadable Ptr address → IsAlignment n → Parses (loading memory_shape) (IsInstr (Load reg address n)) (register space reg ++ (comma ++ (pointer_to address ++ printed.aligned n)))
unfolding loading
load_read reg address n r p a =
    next _ (scalar_read space reg r) (then comma_read (λ b u. then (pointer_read space) (λ c v. then (operand_read space Ptr address p) (λ x h. last (align_behind n a) (λ m e. nothing (refl, h, e))))))

pub store_read : (reg : Reg) (x address : Operand) (n : ℕ) → IsScalar reg → OperandReadable reg x → OperandReadable Ptr address → IsAlignment n → Parses (storing memory_shape) (IsInstr (Store reg x address n)) (typed space reg x ++ (comma ++ (pointer_to address ++ printed.aligned n)))
unfolding storing
store_read reg x address n r p q a =
    regroup (register space reg) _ _
    (next _ (scalar_read space reg r) (then (operand_read space reg x p) (λ v k. then comma_read (λ b u. then (pointer_read space) (λ c w. then (operand_read space Ptr address q) (λ y h. last (align_behind n a) (λ m e. nothing (refl, k, h, e))))))))
