use Rattle.std.proofs.Common.{◌≡◌, ◌≤◌, drop, max}
use Rattle.ir_tree.specs.Forms.{forms_of}
use Rattle.ir_tree.specs.Layout.{widest, AreLaidOut}
use Rattle.ir_parse_names.proofs.expand.widest.Given as goal

abbrev pub invariant-each : goal.invariant-each
invariant-each l = record {
  rest : max l.most (widest (forms_of (drop l.part-index l.parts))) ≡ widest (forms_of l.parts);
  least : 1 ≤ l.most;
  laid : AreLaidOut (forms_of (drop l.part-index l.parts));
}
