use Rattle.std.proofs.Common.{◌≡◌, length}
use Rattle.ir_parse_stages.specs.Circles.{AreFree}
use Rattle.ir_parse_stages.proofs.circles.falling.Given as goal

abbrev pub invariant-each : goal.invariant-each
invariant-each l = record {
  free : AreFree l.graph l.free.items;
  long : length l.free.items ≡ l.place;
}
