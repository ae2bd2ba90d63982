use Rattle.std.proofs.Common.{◌≤◌, take}
use Rattle.std.specs.Io.KnownBytes.{Appends}
use Rattle.lto_fault.proofs.parts.push_all.Given as goal

abbrev pub invariant-loop-byte : goal.invariant-loop-byte
invariant-loop-byte g l = record {
  sent : Appends (g.N.ByteOut.sent l.fn.out) (g.N.ByteOut.sent l.out) (take l.byte-index l.bytes);
  later : g.N.ByteOut.faults l.fn.out ≤ g.N.ByteOut.faults l.out;
}
