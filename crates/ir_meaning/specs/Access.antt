-- Loads and stores (LangRef, "load Instruction", "store Instruction", "Pointer Aliasing Rules").
use Rattle.std.specs.Prelude.{ℕ, ◌+◌, ◌%◌, Bool, not, ◌&&◌, nat_le, ◌==◌, if◌then◌else◌, List, ◌++◌, length, take, drop, slice_get, slice_set, Option, Some, None}
use Rattle.ir_tree.specs.declared.operand.Reg.{Reg}
use Rattle.ir_meaning.specs.Bytes.{read, reg_size, stored_bytes}
use Rattle.ir_meaning.specs.Memory.{Memory, MemoryBlock}
use Rattle.ir_meaning.specs.Operate.{Answer, Never}
use Rattle.ir_tree.specs.declared.cause.Cause.{Cause}
use Rattle.ir_tree.specs.declared.cause.Cause.TheVariants.{BadPointer, Misaligned, OutOfBounds, StoreToConstant}
use Rattle.ir_meaning.specs.declared.value.Base.TheVariants.{Cell}
use Rattle.ir_meaning.specs.declared.value.Byte.{Byte}
use Rattle.ir_meaning.specs.declared.value.Value.{Value}
use Rattle.ir_meaning.specs.declared.value.Value.TheVariants.{Pointer}

-- an access of so many bytes is defined
abbrev pub reaches : MemoryBlock → ℕ → ℕ → ℕ → Bool
reaches b offset size align = b.live && (nat_le (offset + size) b.size && ((b.align % align == 0) && (offset % align == 0)))

-- why an access of so many bytes that isn't defined is undefined
abbrev pub access_cause : MemoryBlock → ℕ → ℕ → Cause
access_cause b offset size = if b.live then (if nat_le (offset + size) b.size then Misaligned else OutOfBounds) else BadPointer

abbrev pub load_from : Option MemoryBlock → Reg → ℕ → ℕ → Answer
load_from None reg offset align = Never BadPointer
load_from (Some b) reg offset align =
    if reaches b offset (reg_size reg) align then read reg (take (reg_size reg) (drop offset b.bytes)) else Never
    (access_cause b offset (reg_size reg))

abbrev pub load : Memory → Reg → Value → ℕ → Answer
load memory reg (Pointer (Cell k) offset) align = load_from (slice_get memory k) reg offset align
load memory reg _ align = Never BadPointer

-- the bytes with these in place of those from the offset on
abbrev pub overwritten : List Byte → ℕ → List Byte → List Byte
overwritten bytes offset new = take offset bytes ++ (new ++ drop (offset + length new) bytes)

abbrev pub store_in : Memory → ℕ → Option MemoryBlock → Reg → Value → ℕ → ℕ → Option Memory
store_in memory k None reg value offset align = None
store_in memory k (Some b) reg value offset align =
    if b.writable && reaches b offset (reg_size reg) align
    then Some (slice_set memory k (record b { bytes = overwritten b.bytes offset (stored_bytes reg value) }))
    else None

-- the memory after a store, where that is defined
abbrev pub store : Memory → Reg → Value → Value → ℕ → Option Memory
store memory reg value (Pointer (Cell k) offset) align = store_in memory k (slice_get memory k) reg value offset align
store memory reg value _ align = None

abbrev pub refusal_in : Option MemoryBlock → ℕ → ℕ → Cause
refusal_in None offset size = BadPointer
refusal_in (Some b) offset size = if b.live && not b.writable then StoreToConstant else access_cause b offset size

-- why a store that isn't defined is undefined
abbrev pub store_cause : Memory → Reg → Value → Cause
store_cause memory reg (Pointer (Cell k) offset) = refusal_in (slice_get memory k) offset (reg_size reg)
store_cause memory reg _ = BadPointer
