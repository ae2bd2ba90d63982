-- Worked examples of operations: those that the LLVM Language Reference gives with each instruction, and the edges of
-- this profile. Runs of whole programs stand in `ExampleRuns`.
use Rattle.std.specs.Prelude.{◌≡◌, ℕ, ◌%◌, Bool, true, false, ℤ, pos, negsuc, List, [], ◌∷◌, drop, take, Some}
use Rattle.ir_tree.specs.Forms.{Form}
use Rattle.ir_tree.specs.declared.instr.BinaryOp.{BinaryOp}
use Rattle.ir_tree.specs.declared.instr.BinaryOp.TheVariants.{Add, And, Ashr, Lshr, Mul, Or, Sdiv, Shl, Srem, Sub, Udiv, Urem, Xor}
use Rattle.ir_tree.specs.declared.instr.CastOp.{CastOp}
use Rattle.ir_tree.specs.declared.instr.CastOp.TheVariants.{Sext, Trunc, Zext}
use Rattle.ir_tree.specs.declared.instr.Flags.{Flags}
use Rattle.ir_tree.specs.declared.instr.Predicate.{Predicate}
use Rattle.ir_tree.specs.declared.instr.Predicate.TheVariants.{Eq, Ne, Sge, Sgt, Sle, Slt, Uge, Ugt, Ule, Ult}
use Rattle.ir_tree.specs.declared.operand.Reg.{Reg}
use Rattle.ir_tree.specs.declared.operand.Reg.TheVariants.{Int, Ptr}
use Rattle.ir_meaning.specs.Address.{address_of}
use Rattle.ir_meaning.specs.Bytes.{read, stored_bytes}
use Rattle.ir_meaning.specs.Memory.{Memory, MemoryBlock, dead, fresh}
use Rattle.ir_meaning.specs.Operate.{Answer, Is, Never, Unwritten, binary, bit, cast, compared, frozen, selected}
use Rattle.ir_meaning.specs.Pointers.{compared_pointers}
use Rattle.ir_tree.specs.declared.cause.Cause.{Cause}
use Rattle.ir_tree.specs.declared.cause.Cause.TheVariants.{DivisionByZero, DivisionOverflow, PoisonDivisor}
use Rattle.ir_meaning.specs.declared.value.Base.TheVariants.{Cell, Nowhere}
use Rattle.ir_meaning.specs.declared.value.Byte.{Byte}
use Rattle.ir_meaning.specs.declared.value.Byte.TheVariants.{Plain, Spoilt, Unset}
use Rattle.ir_meaning.specs.declared.value.Value.{Value}
use Rattle.ir_meaning.specs.declared.value.Value.TheVariants.{Number, Pointer, Poison}
use Rattle.ir_tree.specs.Forms.{int, array, structure, no_parts, part}

abbrev pub loose : Flags
loose = record { nuw = false; nsw = false; exact = false }

abbrev pub no_unsigned_wrap : Flags
no_unsigned_wrap = record { nuw = true; nsw = false; exact = false }

abbrev pub no_signed_wrap : Flags
no_signed_wrap = record { nuw = false; nsw = true; exact = false }

abbrev pub no_wrap : Flags
no_wrap = record { nuw = true; nsw = true; exact = false }

abbrev pub exactly : Flags
exactly = record { nuw = false; nsw = false; exact = true }

-- an operation on numbers gives a number
abbrev pub Makes : BinaryOp → Flags → ℕ → ℕ → ℕ → ℕ → Type 0
Makes op flags w a b n = binary op flags w (Number a) (Number b) ≡ Is (Number n)

abbrev pub GivesPoison : BinaryOp → Flags → ℕ → ℕ → ℕ → Type 0
GivesPoison op flags w a b = binary op flags w (Number a) (Number b) ≡ Is Poison

abbrev pub IsUndefined : BinaryOp → ℕ → Value → Value → Cause → Type 0
IsUndefined op w a b cause = binary op loose w a b ≡ Never cause

pub record Arithmetic : Type 0 where
  pub add_wraps : Makes Add loose 8 255 1 0
  pub add_nuw : GivesPoison Add no_unsigned_wrap 8 255 1
  pub add_nsw : GivesPoison Add no_signed_wrap 8 127 1
  pub add_nsw_unsigned : Makes Add no_signed_wrap 8 255 1 0
  pub sub_wraps : Makes Sub loose 8 0 1 255
  pub sub_nuw : GivesPoison Sub no_unsigned_wrap 8 0 1
  pub mul_wraps : Makes Mul loose 8 16 17 16
  pub mul_nsw : GivesPoison Mul no_signed_wrap 8 16 8
  pub shl_two : Makes Shl loose 32 4 2 16
  pub shl_ten : Makes Shl loose 32 1 10 1024
  pub shl_by_width : GivesPoison Shl loose 32 1 32
  pub shl_nsw : GivesPoison Shl no_signed_wrap 8 64 1
  pub lshr_one : Makes Lshr loose 32 4 1 2
  pub lshr_two : Makes Lshr loose 32 4 2 1
  pub lshr_three : Makes Lshr loose 8 4 3 0
  pub lshr_negative : Makes Lshr loose 8 254 1 127
  pub lshr_exact : GivesPoison Lshr exactly 8 5 1
  pub ashr_one : Makes Ashr loose 32 4 1 2
  pub ashr_negative : Makes Ashr loose 8 254 1 255
  pub and_parts : Makes And loose 32 15 40 8
  pub and_apart : Makes And loose 32 4 8 0
  pub or_parts : Makes Or loose 32 15 40 47
  pub or_apart : Makes Or loose 32 4 8 12
  pub xor_parts : Makes Xor loose 32 15 40 39
  pub xor_apart : Makes Xor loose 32 4 8 12
  pub xor_negated : Makes Xor loose 8 5 255 250
  pub udiv_exact : GivesPoison Udiv exactly 8 5 2
  pub sdiv_towards_zero : Makes Sdiv loose 8 249 2 253
  pub srem_of_negative : Makes Srem loose 8 249 2 255
  pub urem : Makes Urem loose 8 249 2 1
  pub by_zero : IsUndefined Udiv 8 (Number 1) (Number 0) DivisionByZero
  pub least_by_minus_one : IsUndefined Sdiv 8 (Number 128) (Number 255) DivisionOverflow
  pub least_rest : IsUndefined Srem 8 (Number 128) (Number 255) DivisionOverflow
  pub poison_by_minus_one : IsUndefined Sdiv 8 Poison (Number 255) DivisionOverflow
  pub poison_by_zero : IsUndefined Urem 8 Poison (Number 0) DivisionByZero
  pub by_poison : IsUndefined Udiv 8 (Number 1) Poison PoisonDivisor
  pub poison_dividend : binary Udiv loose 8 Poison (Number 2) ≡ Is Poison
  pub past_the_width : binary Add loose 8 (Number 256) (Number 0) ≡ Is Poison
  pub add_both_flags : GivesPoison Add no_wrap 8 100 100
  pub add_nsw_greatest : GivesPoison Add no_signed_wrap 64 9223372036854775807 1
  pub sub_negates : Makes Sub loose 32 0 5 4294967291
  pub sub_nsw : GivesPoison Sub no_signed_wrap 8 128 1
  pub mul_nuw : GivesPoison Mul no_unsigned_wrap 8 16 16
  pub mul_wraps_at_64 : Makes Mul loose 64 18446744073709551615 18446744073709551615 1
  pub shl_nuw : GivesPoison Shl no_unsigned_wrap 8 128 1
  pub shl_nsw_of_negative : Makes Shl no_signed_wrap 8 192 1 128
  pub lshr_by_width : GivesPoison Lshr loose 8 4 8
  pub ashr_by_width : GivesPoison Ashr loose 8 4 8
  pub ashr_exact : GivesPoison Ashr exactly 8 5 1
  pub sdiv_exact : GivesPoison Sdiv exactly 8 249 2
  pub sdiv_of_one_bit : IsUndefined Sdiv 1 (Number 1) (Number 1) DivisionOverflow
  pub udiv_by_greatest : Makes Udiv loose 8 128 255 0

abbrev pub Says : Predicate → ℕ → ℕ → ℕ → Bool → Type 0
Says p w a b answer = compared p w (Number a) (Number b) ≡ bit answer

pub record Comparisons : Type 0 where
  pub eq : Says Eq 32 4 5 false
  pub ult : Says Ult 16 4 5 true
  pub sgt : Says Sgt 16 4 5 false
  pub ule_negative : Says Ule 16 65532 5 false
  pub sle_negative : Says Sle 16 65532 5 true
  pub sge : Says Sge 16 4 5 false
  pub select_true : selected (Number 1) (Number 17) (Number 42) ≡ Number 17
  pub select_poison : selected Poison (Number 17) (Number 42) ≡ Poison
  pub select_one_arm : selected (Number 0) Poison (Number 42) ≡ Number 42
  pub freeze_number : frozen (Int 8) 3 (Number 7) ≡ Number 7
  pub freeze_poison : frozen (Int 8) 259 Poison ≡ Number 3
  pub ne : Says Ne 32 4 5 true
  pub ugt_negative : Says Ugt 16 65532 5 true
  pub uge : Says Uge 16 5 5 true
  pub slt_least : Says Slt 8 128 127 true
  pub sgt_one_bit : Says Sgt 1 0 1 true
  pub of_poison : compared Eq 8 Poison (Number 1) ≡ Poison
  pub of_another_width : compared Ult 8 (Number 256) (Number 1) ≡ Poison
  pub select_false : selected (Number 0) (Number 17) (Number 42) ≡ Number 42

abbrev pub Casts : CastOp → ℕ → ℕ → ℕ → ℕ → Type 0
Casts op from to a n = cast op (Int from) (Int to) (Number a) ≡ Number n

pub record Conversions : Type 0 where
  pub trunc_byte : Casts Trunc 32 8 257 1
  pub trunc_odd : Casts Trunc 32 1 123 1
  pub trunc_even : Casts Trunc 32 1 122 0
  pub zext_word : Casts Zext 32 64 257 257
  pub zext_true : Casts Zext 1 32 1 1
  pub sext_byte : Casts Sext 8 16 255 65535
  pub sext_true : Casts Sext 1 32 1 4294967295
  pub of_a_pointer : cast Zext (Int 32) (Int 64) (Pointer Nowhere 0) ≡ Poison
  pub sext_positive : Casts Sext 8 16 127 127
  pub trunc_high_bits : Casts Trunc 64 32 4294967298 2
  pub of_poison : cast Sext (Int 8) (Int 16) Poison ≡ Poison

-- the Reference's structure, with an `i64` for its `double`: { i32, i64, { i8, [10 x [20 x i32]], i8 } }
abbrev pub inner : Form
inner = structure false (part (int 8) (part (array 10 (array 20 (int 32))) (part (int 8) no_parts)))

abbrev pub outer : Form
outer = structure false (part (int 32) (part (int 64) (part inner no_parts)))

abbrev pub block_of_size : ℕ → MemoryBlock
block_of_size n = fresh n 8

-- in a memory of one block of 2000 bytes
abbrev pub IsAt : Bool → Form → List ℤ → ℕ → Type 0
IsAt inbounds shape indices n = address_of (block_of_size 2000 ∷ []) inbounds shape (Pointer (Cell 0) 0) (Some indices) ≡ Pointer (Cell 0) n

pub record Addresses : Type 0 where
  pub element : IsAt true outer (pos 1 ∷ pos 2 ∷ pos 1 ∷ pos 5 ∷ pos 13 ∷ []) 1296
  pub along_an_array : IsAt true (int 32) (pos 3 ∷ []) 12
  pub into_an_array : IsAt true (array 4 (int 32)) (pos 0 ∷ pos 3 ∷ []) 12
  pub wraps_without_inbounds : IsAt false (int 8) (negsuc 0 ∷ []) 18446744073709551615
  pub leaves_the_object : address_of (block_of_size 8 ∷ []) true (int 8) (Pointer (Cell 0) 0) (Some (pos 9 ∷ [])) ≡ Poison
  pub one_past_the_end : address_of (block_of_size 8 ∷ []) true (int 8) (Pointer (Cell 0) 0) (Some (pos 8 ∷ [])) ≡ Pointer (Cell 0) 8
  pub zero_stays : address_of [] true (int 8) (Pointer Nowhere 5) (Some (pos 0 ∷ [])) ≡ Pointer Nowhere 5
  pub of_poison : address_of [] false (int 8) Poison (Some (pos 1 ∷ [])) ≡ Poison
  pub backwards : address_of (block_of_size 8 ∷ []) true (int 16) (Pointer (Cell 0) 6) (Some (negsuc 1 ∷ [])) ≡ Pointer (Cell 0) 2
  pub field_behind_padding : IsAt true outer (pos 0 ∷ pos 1 ∷ []) 8
  pub packed_field : IsAt true (structure true (part (int 8) (part (int 32) no_parts))) (pos 0 ∷ pos 1 ∷ []) 1
  pub before_the_object : address_of (block_of_size 8 ∷ []) true (int 8) (Pointer (Cell 0) 0) (Some (negsuc 0 ∷ [])) ≡ Poison

abbrev pub live_pair : Memory
live_pair = block_of_size 4 ∷ block_of_size 4 ∷ []

abbrev pub half_dead : Memory
half_dead = block_of_size 4 ∷ dead (block_of_size 4) ∷ []

-- the comparison is settled, or gives the free choice
abbrev pub Compares : Memory → Predicate → Value → Value → Bool → Type 0
Compares memory p v u answer = (choice : ℕ) → compared_pointers memory p v u choice ≡ bit answer

abbrev pub IsFree : Memory → Predicate → Value → Value → Type 0
IsFree memory p v u = (choice : ℕ) → compared_pointers memory p v u choice ≡ Number (choice % 2)

pub record PointerComparisons : Type 0 where
  pub one_block : Compares live_pair Eq (Pointer (Cell 0) 1) (Pointer (Cell 0) 1) true
  pub one_dead_block : Compares half_dead Ne (Pointer (Cell 1) 1) (Pointer (Cell 1) 2) true
  pub two_live_blocks : Compares live_pair Eq (Pointer (Cell 0) 0) (Pointer (Cell 1) 3) false
  pub end_of_a_block : IsFree live_pair Eq (Pointer (Cell 0) 4) (Pointer (Cell 1) 0)
  pub a_dead_block : IsFree half_dead Eq (Pointer (Cell 0) 0) (Pointer (Cell 1) 0)
  pub null_and_a_block : Compares live_pair Eq (Pointer Nowhere 0) (Pointer (Cell 1) 4) false
  pub order_in_a_block : Compares live_pair Ult (Pointer (Cell 0) 1) (Pointer (Cell 0) 4) true
  pub order_of_two : IsFree live_pair Ult (Pointer (Cell 0) 1) (Pointer (Cell 1) 4)

-- what a load of a type gives of the bytes that a store of another left
abbrev pub LoadsAs : Reg → List Byte → Answer → Type 0
LoadsAs reg bytes answer = read reg bytes ≡ answer

pub record Loads : Type 0 where
  pub little_endian : LoadsAs (Int 16) (Plain 1 ∷ Plain 2 ∷ []) (Is (Number 513))
  pub unset_before_poison : LoadsAs (Int 16) (Spoilt ∷ Unset ∷ []) Unwritten
  pub poison_byte : LoadsAs (Int 16) (Spoilt ∷ Plain 2 ∷ []) (Is Poison)
  pub null_is_zero : LoadsAs (Int 64) (stored_bytes Ptr (Pointer Nowhere 0)) (Is (Number 0))
  pub zero_is_null : LoadsAs Ptr (stored_bytes (Int 64) (Number 0)) (Is (Pointer Nowhere 0))
  pub pointer_again : LoadsAs Ptr (stored_bytes Ptr (Pointer (Cell 3) 9)) (Is (Pointer (Cell 3) 9))
  pub pointer_as_number : LoadsAs (Int 64) (stored_bytes Ptr (Pointer (Cell 3) 9)) (Is Poison)
  pub number_as_pointer : LoadsAs Ptr (stored_bytes (Int 64) (Number 1)) (Is Poison)
  pub fragments_apart : LoadsAs Ptr (Plain 0 ∷ drop 1 (stored_bytes Ptr (Pointer (Cell 3) 9))) (Is Poison)
  pub byte_of_a_pointer : LoadsAs (Int 8) (take 1 (stored_bytes Ptr (Pointer (Cell 3) 9))) (Is Poison)
  pub poison_again : LoadsAs (Int 32) (stored_bytes (Int 32) Poison) (Is Poison)

pub record ExampleOperations : Type 0 where
  pub arithmetic : Arithmetic
  pub comparisons : Comparisons
  pub conversions : Conversions
  pub addresses : Addresses
  pub pointer_comparisons : PointerComparisons
  pub loads : Loads
