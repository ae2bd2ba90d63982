use Rattle.std.proofs.Common.{◌≡◌, ◌≤◌, ◌^◌, drop}
use Rattle.ir_tree.specs.Forms.{forms_of}
use Rattle.ir_tree.specs.Layout.{ends, AreLaidOut}
use Rattle.ir_parse_names.proofs.expand.end_of.Given as goal

abbrev pub invariant-each : goal.invariant-each
invariant-each l = record {
  rest : ends l.packed l.end (forms_of (drop l.part-index l.parts)) ≡ ends l.packed 0 (forms_of l.parts);
  laid : AreLaidOut (forms_of (drop l.part-index l.parts));
  near : l.end ≤ 2 ^ 31;
}
