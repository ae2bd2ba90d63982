-- The word that an instruction begins with, and what the grammar has behind it (LangRef, "Instruction Reference").
use Rattle.ir_lex.specs.Tok.{Tok}
use Rattle.ir_lex.specs.declared.token_kind.TokenKind.{TokenKind}
use Rattle.ir_lex.specs.declared.token_kind.TokenKind.TheVariants as kinds
use Rattle.ir_tree.specs.declared.instr.BinaryOp.{BinaryOp}
use Rattle.ir_tree.specs.declared.instr.BinaryOp.TheVariants as binary
use Rattle.ir_tree.specs.declared.instr.CastOp.{CastOp}
use Rattle.ir_tree.specs.declared.instr.CastOp.TheVariants as casts
use Rattle.ir_tree.specs.declared.instr.Instr.{Instr}
use Rattle.ir_tree.specs.declared.instr.Instr.TheVariants.{Binary, Icmp, Cast, Select, Freeze, Alloca, Load, Store, Address, Call, Phi}
use Rattle.ir_parse_parts.specs.Forms.{Form, ◌>>=◌}
use Rattle.ir_parse_operands.specs.Addressing.{reserving, addressing, slots_fit}
use Rattle.ir_parse_parts.specs.Classes.{the}
use Rattle.ir_parse_bodies.specs.Instructions.{wrapping, dividing, joining, on_two, no_flags, comparing, extending, narrowing, selecting, freezing, loading, storing}
use Rattle.ir_parse_bodies.specs.Phis.{phi}
use Rattle.ir_parse_operands.specs.ShapeForms.{memory_shape}
use Rattle.ir_parse_parts.specs.declared.raw.Instr as raw
use Rattle.ir_round_trip.specs.Classes.{binary_class, cast_class}

abbrev pub behind_opcode : BinaryOp → Form Tok raw.Instr
behind_opcode binary.Add = wrapping memory_shape binary.Add
behind_opcode binary.Sub = wrapping memory_shape binary.Sub
behind_opcode binary.Mul = wrapping memory_shape binary.Mul
behind_opcode binary.Shl = wrapping memory_shape binary.Shl
behind_opcode binary.Udiv = dividing memory_shape binary.Udiv
behind_opcode binary.Sdiv = dividing memory_shape binary.Sdiv
behind_opcode binary.Lshr = dividing memory_shape binary.Lshr
behind_opcode binary.Ashr = dividing memory_shape binary.Ashr
behind_opcode binary.Urem = on_two memory_shape binary.Urem no_flags
behind_opcode binary.Srem = on_two memory_shape binary.Srem no_flags
behind_opcode binary.And = on_two memory_shape binary.And no_flags
behind_opcode binary.Or = joining memory_shape
behind_opcode binary.Xor = on_two memory_shape binary.Xor no_flags

abbrev pub behind_conversion : CastOp → Form Tok raw.Instr
behind_conversion casts.Zext = extending memory_shape casts.Zext
behind_conversion casts.Sext = extending memory_shape casts.Sext
behind_conversion casts.Trunc = narrowing memory_shape casts.Trunc

-- the class of its word
abbrev pub word_class : Instr → TokenKind
word_class (Binary op flags w left right) = binary_class op
word_class (Icmp predicate reg left right) = kinds.Icmp
word_class (Cast op from value to) = cast_class op
word_class (Select condition if_true if_false) = kinds.Select
word_class (Freeze reg value) = kinds.Freeze
word_class (Alloca shape align) = kinds.Alloca
word_class (Load reg address align) = kinds.Load
word_class (Store reg value address align) = kinds.Store
word_class (Address inbounds shape base indices) = kinds.GetElementPtr
word_class (Call result callee arguments) = kinds.Call
word_class (Phi reg edges) = kinds.Phi

-- nothing of a call
abbrev pub behind_word : Instr → Form Tok raw.Instr
behind_word (Binary op flags w left right) = behind_opcode op
behind_word (Icmp predicate reg left right) = comparing memory_shape
behind_word (Cast op from value to) = behind_conversion op
behind_word (Select condition if_true if_false) = selecting memory_shape
behind_word (Freeze reg value) = freezing memory_shape
behind_word (Alloca shape align) = reserving slots_fit memory_shape
behind_word (Load reg address align) = loading memory_shape
behind_word (Store reg value address align) = storing memory_shape
behind_word (Address inbounds shape base indices) = addressing memory_shape
behind_word (Call result callee arguments) = λ ts i. ⊥
behind_word (Phi reg edges) = phi memory_shape

-- its word, and what stands behind it
abbrev pub worded : Instr → Form Tok raw.Instr
worded i = the (word_class i) >>= λ _. behind_word i
