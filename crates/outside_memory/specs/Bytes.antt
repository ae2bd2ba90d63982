-- What streams in memory have left or were sent.
use Rattle.std.specs.Prelude.{ℕ, List, drop}
use Rattle.outside_memory.specs.declared.bytes.MemoryIn.{MemoryIn}
use Rattle.outside_memory.specs.declared.bytes.MemoryOut.{MemoryOut}
use Rattle.outside_memory.specs.declared.calls.Calls.{Calls}

abbrev pub in_left : MemoryIn → List ℕ
in_left m = drop m.at m.bytes.items

abbrev pub in_calls : MemoryIn → Calls
in_calls m = m.calls

abbrev pub in_failing : MemoryIn → List ℕ
in_failing m = m.failing.items

abbrev pub out_sent : MemoryOut → List ℕ
out_sent m = m.bytes

abbrev pub out_calls : MemoryOut → Calls
out_calls m = m.calls

abbrev pub out_failing : MemoryOut → List ℕ
out_failing m = m.failing.items
