use Rattle.std.proofs.Common.{◌≤◌, take, map}
use Rattle.std.specs.Io.KnownBytes.{Appends}
use Rattle.lto_fault.specs.Pushing.{joined}
use Rattle.lto_fault.proofs.parts.push_parts.Given as goal

abbrev pub invariant-loop-part : goal.invariant-loop-part
invariant-loop-part g l = record {
  sent : Appends (g.N.ByteOut.sent l.fn.out) (g.N.ByteOut.sent l.out) (joined (map (λ p. p.now) (take l.part-index l.parts)));
  later : g.N.ByteOut.faults l.fn.out ≤ g.N.ByteOut.faults l.out;
}
