-- Printed lines are read: an instruction by its word and what stands behind it, with the name of its result before it
-- (LangRef, "Instruction Reference").
use Rattle.std.proofs.Common.{◌≡◌, ℕ, Bool, true, false, Option, Some, None, List, [], ◌∷◌, ◌++◌, codes, refl, ap, subst, sym, ◌∙◌}
use Rattle.ir_parse_bodies.specs.Lines as read
use Rattle.ir_parse_bodies.specs.Lines.{GIVING, OPCODES, opcode_by, opcode_of, begun_of, attended, behind, lined, line_behind, named_line, plain_line, line}
use Rattle.ir_parse_bodies.specs.declared.opcodes.Opcode.{Opcode}
use Rattle.ir_lex.specs.TokenKinds.{number, kind_of, word_kind, listed_kind, words_3, words_4, words_5, words_6, words_13}
use Rattle.ir_lex.specs.Pieces.{Piece}
use Rattle.ir_lex.specs.Tok.{Tok}
use Rattle.ir_lex.specs.declared.token_kind.TokenKind.{TokenKind}
use Rattle.ir_lex.specs.declared.token_kind.TokenKind.TheVariants as kinds
use Rattle.ir_lex.specs.declared.token.TokenForm.TheVariants as forms
use Rattle.ir_print.specs.Instructions.{opcode, conversion, instruction, line_of}
use Rattle.ir_print.specs.Operands.{typed}
use Rattle.ir_print.specs.Tokens.{space, indent, word}
use Rattle.ir_print.specs.Types.{register}
use Rattle.ir_parse_operands.specs.Addressing.{slots_fit}
use Rattle.ir_parse_parts.specs.Classes.{refusal, one_of}
use Rattle.ir_parse_bodies.specs.Instructions.{casting}
use Rattle.ir_parse_parts.specs.Operands.{local}
use Rattle.ir_parse_operands.specs.ShapeForms.{memory_shape}
use Rattle.ir_parse_parts.specs.declared.raw.Instr as raw_instr
use Rattle.ir_tree.specs.Formed.{IsReg}
use Rattle.ir_tree.specs.declared.instr.BinaryOp.{BinaryOp}
use Rattle.ir_tree.specs.declared.instr.BinaryOp.TheVariants as binary
use Rattle.ir_tree.specs.declared.instr.CastOp.{CastOp}
use Rattle.ir_tree.specs.declared.instr.CastOp.TheVariants as casts
use Rattle.ir_tree.specs.declared.instr.Instr.{Instr}
use Rattle.ir_tree.specs.declared.instr.Instr.TheVariants.{Binary, Icmp, Cast, Select, Freeze, Alloca, Load, Store, Address, Call, Phi}
use Rattle.ir_tree.specs.declared.instr.Line.{Line}
use Rattle.ir_tree.specs.declared.operand.Operand.{Operand}
use Rattle.ir_tree.specs.declared.operand.Reg.{Reg}
use Rattle.ir_parse_parts.specs.Alphabet.{contains}
use Rattle.ir_parse_parts.specs.Forms.{Form, ◌>>=◌, gives}
use Rattle.ir_round_trip.specs.Printed.{IsSomeWith, IsInstruction, IsLine}
use Rattle.ir_round_trip.specs.Readable.{InstructionReadable, MayHaveName, ResultReadable, LineReadable}
use Rattle.ir_round_trip.proofs.Calls.{calling_read}
use Rattle.ir_round_trip.specs.Classes.{binary_class, cast_class}
use Rattle.ir_round_trip.proofs.Classes.{opcode_class, conversion_class}
use Rattle.ir_round_trip.specs.Behind.{word_class, behind_opcode}
use Rattle.ir_round_trip.specs.PartsPrinted.{IsInstr}
use Rattle.ir_round_trip.specs.PartsReadable.{IsSmall, OperandReadable}
use Rattle.ir_round_trip.specs.Reads.{Parses}
use Rattle.ir_round_trip.proofs.Addressing.{alloca_read, address_read}
use Rattle.ir_round_trip.proofs.Composed.{then, next, last, nothing, regroup, left, right}
use Rattle.ir_round_trip.proofs.PartsInstructions.{no_attachments, binary_read, icmp_read, cast_read, select_read, freeze_read, load_read, store_read}
use Rattle.ir_round_trip.proofs.PrintedNames.{local_read}
use Rattle.ir_round_trip.proofs.PartsOperands.{operand_read}
use Rattle.ir_round_trip.proofs.Phis.{phi_read}
use Rattle.ir_round_trip.proofs.Rooms.{memory_shape_read}
use Rattle.ir_round_trip.proofs.Tokens.{NonEmpty, piece_read, by_classes}
use Rattle.ir_round_trip.proofs.Types.{register_read}
use Rattle.ir_round_trip.proofs.Words.{to_read, equals_read}

-- ---- words

-- a text that is a word of this class
record IsWord (h : TokenKind) (text : List ℕ) : Type 0 where
  some : NonEmpty text
  class : kind_of forms.Word text [] ≡ h

a_word : (h : TokenKind) (c : ℕ) (cs : List ℕ) → kind_of forms.Word (c ∷ cs) [] ≡ h → IsWord h (c ∷ cs)
a_word h c cs e = record { some = record { first = c; others = cs; whole = refl }; class = e }

nonempty : (c : ℕ) (cs : List ℕ) → NonEmpty (c ∷ cs)
nonempty c cs = record { first = c; others = cs; whole = refl }

opcode_word : (op : BinaryOp) → IsWord (binary_class op) (opcode op)
opcode_word op = record { some = by_op op; class = opcode_class op }
  where
    by_op : (op : BinaryOp) → NonEmpty (opcode op)
    by_op binary.Add = nonempty _ _
    by_op binary.Sub = nonempty _ _
    by_op binary.Mul = nonempty _ _
    by_op binary.Shl = nonempty _ _
    by_op binary.Udiv = nonempty _ _
    by_op binary.Sdiv = nonempty _ _
    by_op binary.Lshr = nonempty _ _
    by_op binary.Ashr = nonempty _ _
    by_op binary.Urem = nonempty _ _
    by_op binary.Srem = nonempty _ _
    by_op binary.And = nonempty _ _
    by_op binary.Or = nonempty _ _
    by_op binary.Xor = nonempty _ _

conversion_word : (op : CastOp) → IsWord (cast_class op) (conversion op)
conversion_word op = record { some = by_op op; class = conversion_class op }
  where
    by_op : (op : CastOp) → NonEmpty (conversion op)
    by_op casts.Zext = nonempty _ _
    by_op casts.Sext = nonempty _ _
    by_op casts.Trunc = nonempty _ _

giving_read : (h : TokenKind) (text : List ℕ) → IsWord h text → contains GIVING (number h) ≡ true → Parses (one_of GIVING opcode_of) (λ o. o ≡ opcode_by h) (word space text)
giving_read h text w there =
    piece_read space forms.Word text w.some (by_classes refusal GIVING opcode_of forms.Word text (ap (λ (g : TokenKind). contains GIVING (number g)) w.class ∙ there) (λ t i. ap opcode_by (i.kind ∙ w.class)))

begun_read : (h : TokenKind) (text : List ℕ) → IsWord h text → contains OPCODES (number h) ≡ true → Parses (one_of OPCODES begun_of) (λ b. b.opcode ≡ opcode_by h) (word indent text)
begun_read h text w there =
    piece_read indent forms.Word text w.some (by_classes refusal OPCODES begun_of forms.Word text (ap (λ (g : TokenKind). contains OPCODES (number g)) w.class ∙ there) (λ t i. ap opcode_by (i.kind ∙ w.class)))

-- instructions but stores may have a name
giving : (i : Instr) → MayHaveName i → contains GIVING (number (word_class i)) ≡ true
giving (Binary op flags w x y) h = by_op op
  where
    by_op : (op : BinaryOp) → contains GIVING (number (binary_class op)) ≡ true
    by_op binary.Add = refl
    by_op binary.Sub = refl
    by_op binary.Mul = refl
    by_op binary.Shl = refl
    by_op binary.Udiv = refl
    by_op binary.Sdiv = refl
    by_op binary.Lshr = refl
    by_op binary.Ashr = refl
    by_op binary.Urem = refl
    by_op binary.Srem = refl
    by_op binary.And = refl
    by_op binary.Or = refl
    by_op binary.Xor = refl
giving (Icmp predicate reg x y) h = refl
giving (Cast op from x to) h = by_op op
  where
    by_op : (op : CastOp) → contains GIVING (number (cast_class op)) ≡ true
    by_op casts.Zext = refl
    by_op casts.Sext = refl
    by_op casts.Trunc = refl
giving (Select c x y) h = refl
giving (Freeze reg x) h = refl
giving (Alloca shape align) h = refl
giving (Load reg address align) h = refl
giving (Store reg x address align) h = absurd h
giving (Address inbounds shape base indices) h = refl
giving (Call result callee arguments) h = refl
giving (Phi reg edges) h = refl

-- any may stand without one
stating : (i : Instr) → contains OPCODES (number (word_class i)) ≡ true
stating (Binary op flags w x y) = by_op op
  where
    by_op : (op : BinaryOp) → contains OPCODES (number (binary_class op)) ≡ true
    by_op binary.Add = refl
    by_op binary.Sub = refl
    by_op binary.Mul = refl
    by_op binary.Shl = refl
    by_op binary.Udiv = refl
    by_op binary.Sdiv = refl
    by_op binary.Lshr = refl
    by_op binary.Ashr = refl
    by_op binary.Urem = refl
    by_op binary.Srem = refl
    by_op binary.And = refl
    by_op binary.Or = refl
    by_op binary.Xor = refl
stating (Icmp predicate reg x y) = refl
stating (Cast op from x to) = by_op op
  where
    by_op : (op : CastOp) → contains OPCODES (number (cast_class op)) ≡ true
    by_op casts.Zext = refl
    by_op casts.Sext = refl
    by_op casts.Trunc = refl
stating (Select c x y) = refl
stating (Freeze reg x) = refl
stating (Alloca shape align) = refl
stating (Load reg address align) = refl
stating (Store reg x address align) = refl
stating (Address inbounds shape base indices) = refl
stating (Call result callee arguments) = refl
stating (Phi reg edges) = refl

-- ---- behind the word

attended_read : {g : Form Tok raw_instr.Instr} {P : raw_instr.Instr → Type 0} {ps : List Piece} → Parses g P ps → Parses (attended g) (IsSomeWith P) ps
unfolding attended
attended_read r = last r (λ i p. then no_attachments (λ a u. nothing (i, refl, p)))

kept_read : {g : Form Tok raw_instr.Instr} {P : raw_instr.Instr → Type 0} {ps : List Piece} → Parses g P ps → Parses (read.kept g) (IsSomeWith P) ps
unfolding read.kept
kept_read r = last r (λ i p. nothing (i, refl, p))

opcode_behind : (named : Bool) (op : BinaryOp) {P : raw_instr.Instr → Type 0} {ps : List Piece} → Parses (behind_opcode op) P ps → Parses (behind slots_fit memory_shape named (opcode_by (binary_class op))) (IsSomeWith P) ps
opcode_behind named binary.Add r = attended_read r
opcode_behind named binary.Sub r = attended_read r
opcode_behind named binary.Mul r = attended_read r
opcode_behind named binary.Shl r = attended_read r
opcode_behind named binary.Udiv r = attended_read r
opcode_behind named binary.Sdiv r = attended_read r
opcode_behind named binary.Lshr r = attended_read r
opcode_behind named binary.Ashr r = attended_read r
opcode_behind named binary.Urem r = attended_read r
opcode_behind named binary.Srem r = attended_read r
opcode_behind named binary.And r = attended_read r
opcode_behind named binary.Or r = attended_read r
opcode_behind named binary.Xor r = attended_read r

casting_read : (op : CastOp) (from : Reg) (x : Operand) (to : Reg) → IsReg from → OperandReadable from x → IsReg to → Parses (casting memory_shape op) (IsInstr (Cast op from x to)) (typed space from x ++ (word space (codes "to") ++ register space to))
unfolding casting
casting_read op from x to r p s =
    regroup (register space from) _ _
    (next _ (register_read space from r) (then (operand_read space from x p) (λ v h. then (to_read space) (λ a u. last (register_read space to s) (λ g e. nothing (refl, refl, h, e))))))

-- behind `sext` no flag may stand
conversion_behind : (named : Bool) (op : CastOp) (from : Reg) (x : Operand) (to : Reg) → IsReg from → OperandReadable from x → IsReg to
    → Parses (behind slots_fit memory_shape named (opcode_by (cast_class op))) (IsSomeWith (IsInstr (Cast op from x to))) (typed space from x ++ (word space (codes "to") ++ register space to))
conversion_behind named casts.Zext from x to r p s = attended_read (cast_read casts.Zext from x to r p s)
conversion_behind named casts.Sext from x to r p s = attended_read (casting_read casts.Sext from x to r p s)
conversion_behind named casts.Trunc from x to r p s = attended_read (cast_read casts.Trunc from x to r p s)

-- an instruction's word and what stands behind it, which is read with a name before it or not
record IsSplit (i : Instr) : Type 0 where
  text : List ℕ
  rest : List Piece
  is_word : IsWord (word_class i) text
  whole : (blank : List ℕ) → instruction blank i ≡ word blank text ++ rest
  reads : (named : Bool) → Parses (behind slots_fit memory_shape named (opcode_by (word_class i))) (IsSomeWith (IsInstruction i)) rest

split : (i : Instr) → InstructionReadable i → IsSplit i
unfolding kind_of word_kind listed_kind words_3 words_4 words_5 words_6 words_13
split (Binary op fs w x y) h = record { text = opcode op; rest = _; is_word = opcode_word op; whole = λ blank. refl; reads = λ named. opcode_behind named op (binary_read w x y h.1 h.2 h.3 op fs h.0) }
split (Icmp predicate reg x y) h = record { text = codes "icmp"; rest = _; is_word = a_word kinds.Icmp _ _ refl; whole = λ blank. refl; reads = λ named. attended_read (icmp_read predicate reg x y h.0 h.1 h.2) }
split (Cast op from x to) h = record { text = conversion op; rest = _; is_word = conversion_word op; whole = λ blank. refl; reads = λ named. conversion_behind named op from x to h.0 h.1 h.2 }
split (Select c x y) h = record { text = codes "select"; rest = _; is_word = a_word kinds.Select _ _ refl; whole = λ blank. refl; reads = λ named. attended_read (select_read c x y h.0 h.1 h.2) }
split (Freeze reg x) h = record { text = codes "freeze"; rest = _; is_word = a_word kinds.Freeze _ _ refl; whole = λ blank. refl; reads = λ named. attended_read (freeze_read reg x h.0 h.1) }
split (Alloca f n) h = record { text = codes "alloca"; rest = _; is_word = a_word kinds.Alloca _ _ refl; whole = λ blank. refl; reads = λ named. kept_read (alloca_read f n (memory_shape_read space f h.0) h.1) }
split (Load reg address n) h = record { text = codes "load"; rest = _; is_word = a_word kinds.Load _ _ refl; whole = λ blank. refl; reads = λ named. kept_read (load_read reg address n h.0 h.1 h.2) }
split (Store reg x address n) h = record { text = codes "store"; rest = _; is_word = a_word kinds.Store _ _ refl; whole = λ blank. refl; reads = λ named. kept_read (store_read reg x address n h.0 h.1 h.2 h.3) }
split (Address inbounds f base is) h = record { text = codes "getelementptr"; rest = _; is_word = a_word kinds.GetElementPtr _ _ refl; whole = λ blank. refl; reads = λ named. kept_read (address_read inbounds f base is (memory_shape_read space f h.0) h.1 h.2) }
split (Call r x as') h = record { text = codes "call"; rest = _; is_word = a_word kinds.Call _ _ refl; whole = λ blank. refl; reads = λ named. calling_read named r x as' h }
split (Phi reg []) h = absurd h.1
split (Phi reg (first ∷ is)) h = record { text = codes "phi"; rest = _; is_word = a_word kinds.Phi _ _ refl; whole = λ blank. refl; reads = λ named. kept_read (phi_read reg first is h.0 h.1.0 h.1.1) }

-- ---- lines

plain_line_read : (i : Instr) → IsSplit i → Parses (plain_line slots_fit memory_shape) (IsSomeWith (IsLine (record { local = None; instr = i }))) (instruction indent i)
unfolding plain_line
plain_line_read i s =
    subst (λ (qs : List Piece). Parses (plain_line slots_fit memory_shape) (IsSomeWith (IsLine (record { local = None; instr = i }))) qs) (sym (s.whole indent))
    (then (begun_read (word_class i) s.text s.is_word (stating i)) (λ b e. last (subst (λ (o : Opcode). Parses (behind slots_fit memory_shape false o) (IsSomeWith (IsInstruction i)) s.rest) (sym e) (s.reads false))
    (λ j p. nothing (_, ap (lined None b.line) p.1, (refl, p.2)))))

named_line_read : (n : ℕ) (i : Instr) → IsSmall n → MayHaveName i → IsSplit i → Parses (named_line local slots_fit memory_shape) (IsSomeWith (IsLine (record { local = Some n; instr = i }))) (line_of (Some n) i)
unfolding named_line line_behind
named_line_read n i small named s =
    then (local_read indent n small) (λ t p. then (equals_read space) (λ a u.
    subst (λ (qs : List Piece). Parses (one_of GIVING opcode_of >>= λ o. behind slots_fit memory_shape true o >>= λ j. gives (lined (Some t) t.line j)) (IsSomeWith (IsLine (record { local = Some n; instr = i }))) qs) (sym (s.whole space))
    (next _ (giving_read (word_class i) s.text s.is_word (giving i named)) (last (s.reads true) (λ j q. nothing (_, ap (lined (Some t) t.line) q.1, (p, q.2)))))))

line_by : (name : Option ℕ) (i : Instr) → InstructionReadable i → ResultReadable i name → Parses (line local slots_fit memory_shape) (IsSomeWith (IsLine (record { local = name; instr = i }))) (line_of name i)
unfolding line
line_by None i h r = right _ (plain_line_read i (split i h))
line_by (Some n) i h r = left _ (named_line_read n i r.0 r.1 (split i h))

pub line_read : (l : Line) → LineReadable l → Parses (line local slots_fit memory_shape) (IsSomeWith (IsLine l)) (line_of l.local l.instr)
line_read l h = line_by l.local l.instr h.0 h.1
