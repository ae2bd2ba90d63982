use Rattle.std.proofs.Common.{◌≤◌, take}
use Rattle.lto_words.specs.Links.{puts}
use Rattle.lto_words.proofs.putting.put_all.Given as goal

abbrev pub invariant-loop-at : goal.invariant-loop-at
invariant-loop-at g l = record {
  calls : g.F.Files.did l.fn.files (puts (take l.at l.links) (take l.at l.texts)) l.files;
  later : g.F.Files.faults l.fn.files ≤ g.F.Files.faults l.files;
}
