use Rattle.std.proofs.Common.{◌≡◌, length, take}
use Rattle.thin_link.specs.Listed.{all_listed}
use Rattle.thin_link.specs.Rows.{AreBelow, all_shown}
use Rattle.thin_link.proofs.entry.entries.Given as goal

abbrev pub invariant-loop-definition : goal.invariant-loop-definition
invariant-loop-definition l = record {
  entries : all_shown l.rows.items ≡ all_listed l.symbols l.number (take l.definition-index l.definitions);
  below : AreBelow (length l.symbols) l.rows.items;
}
