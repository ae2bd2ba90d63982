-- Printed instructions are read, each by its word and what stands behind it.
use Rattle.std.proofs.Common.{ℕ, List, [], ◌∷◌}
use Rattle.ir_print.specs.Instructions.{instruction}
use Rattle.ir_print.specs.Tokens.{space}
use Rattle.ir_tree.specs.declared.instr.Instr.{Instr}
use Rattle.ir_tree.specs.declared.instr.Instr.TheVariants.{Binary, Icmp, Cast, Select, Freeze, Alloca, Load, Store, Address, Call, Phi}
use Rattle.ir_round_trip.specs.Behind.{worded}
use Rattle.ir_round_trip.specs.PartsPrinted.{IsInstr}
use Rattle.ir_round_trip.specs.PartsReadable.{InstrReadable}
use Rattle.ir_round_trip.specs.Reads.{Parses}
use Rattle.ir_round_trip.proofs.Addressing.{alloca_read, address_read}
use Rattle.ir_round_trip.proofs.Composed.{then}
use Rattle.ir_round_trip.proofs.PartsInstructions.{opcode_read, conversion_read, binary_read, icmp_read, cast_read, select_read, freeze_read, load_read, store_read}
use Rattle.ir_round_trip.proofs.Phis.{phi_read}
use Rattle.ir_round_trip.proofs.Rooms.{memory_shape_read}
use Rattle.ir_round_trip.proofs.Words as words

pub instruction_read : (blank : List ℕ) (i : Instr) → InstrReadable i → Parses (worded i) (IsInstr i) (instruction blank i)
instruction_read blank (Binary op fs w x y) h = then (opcode_read blank op) (λ a u. binary_read w x y h.1 h.2 h.3 op fs h.0)
instruction_read blank (Icmp predicate reg x y) h = then (words.icmp_read blank) (λ a u. icmp_read predicate reg x y h.0 h.1 h.2)
instruction_read blank (Cast op from x to) h = then (conversion_read blank op) (λ a u. cast_read op from x to h.0 h.1 h.2)
instruction_read blank (Select c x y) h = then (words.select_read blank) (λ a u. select_read c x y h.0 h.1 h.2)
instruction_read blank (Freeze reg x) h = then (words.freeze_read blank) (λ a u. freeze_read reg x h.0 h.1)
instruction_read blank (Alloca f n) h = then (words.alloca_read blank) (λ a u. alloca_read f n (memory_shape_read space f h.0) h.1)
instruction_read blank (Load reg address n) h = then (words.load_read blank) (λ a u. load_read reg address n h.0 h.1 h.2)
instruction_read blank (Store reg x address n) h = then (words.store_read blank) (λ a u. store_read reg x address n h.0 h.1 h.2 h.3)
instruction_read blank (Address inbounds f base is) h = then (words.address_word_read blank) (λ a u. address_read inbounds f base is (memory_shape_read space f h.0) h.1 h.2)
instruction_read blank (Call result callee arguments) h = absurd h
instruction_read blank (Phi reg []) h = absurd h.1
instruction_read blank (Phi reg (first ∷ is)) h = then (words.phi_read blank) (λ a u. phi_read reg first is h.0 h.1.0 h.1.1)
