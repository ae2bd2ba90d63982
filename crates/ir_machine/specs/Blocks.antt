-- Blocks of memory: what a live block means, and what accesses to it give.
use Rattle.std.specs.Prelude.{◌≡◌, ℕ, true, false, ◌&&◌, if◌then◌else◌, List, Option, Some, None}
use Rattle.ir_tree.specs.declared.operand.Reg.{Reg}
use Rattle.ir_tree.specs.declared.operand.Symbol.{Symbol}
use Rattle.ir_meaning.specs.Access.{access_cause, overwritten, reaches, refusal_in}
use Rattle.ir_meaning.specs.Bytes.{reg_size, stored_bytes}
use Rattle.ir_meaning.specs.Memory.{MemoryBlock}
use Rattle.ir_tree.specs.declared.cause.Cause.{Cause}
use Rattle.ir_meaning.specs.declared.value.Value.{Value as MeantValue}
use Rattle.ir_machine.specs.Bytes.{bytes_len, bytes_meant}
use Rattle.ir_machine.specs.declared.block.Block.{Block}
use Rattle.ir_machine.specs.declared.block.Stored.{Stored}
use Rattle.ir_machine.specs.declared.block.Stored.TheVariants.{Done, Undefined}

abbrev pub block_meant : List Symbol → Block → MemoryBlock
block_meant names b = record { size = bytes_len b.bytes; align = b.align; bytes = bytes_meant names b.bytes; live = true; writable = b.writable }

-- why an access is undefined, if it is
abbrev pub refused : MemoryBlock → ℕ → ℕ → ℕ → Option Cause
refused b offset size align = if reaches b offset size align then None else Some (access_cause b offset size)

-- what a store makes of a block: where it is undefined the block is as before
abbrev pub IsStored : MemoryBlock → Reg → MeantValue → ℕ → ℕ → MemoryBlock → Stored → Type 0
IsStored b reg value offset align after Done =
    (b.writable && reaches b offset (reg_size reg) align ≡ true)
    × (after ≡ record b { bytes = overwritten b.bytes offset (stored_bytes reg value) })
IsStored b reg value offset align after (Undefined cause) =
    (b.writable && reaches b offset (reg_size reg) align ≡ false)
    × (cause ≡ refusal_in (Some b) offset (reg_size reg))
    × (after ≡ b)
