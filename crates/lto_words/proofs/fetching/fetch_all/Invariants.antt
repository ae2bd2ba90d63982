use Rattle.std.proofs.Common.{◌≡◌, ◌≤◌, length, take}
use Rattle.std.specs.Prelude.{All}
use Rattle.lto_outside.specs.Calls.{DidNoPut}
use Rattle.lto_words.specs.Fetching.{IsShort, fetch_calls}
use Rattle.lto_words.proofs.fetching.fetch_all.Given as goal

abbrev pub invariant-loop-name : goal.invariant-loop-name
invariant-loop-name g l = record {
  calls : g.F.Files.did l.fn.files (fetch_calls (take l.name-index l.names) l.given) l.files;
  each : length l.given ≡ l.name-index;
  short : All IsShort l.given;
  no_put : DidNoPut (λ calls. g.F.Files.did l.fn.files calls l.files);
  later : g.F.Files.faults l.fn.files ≤ g.F.Files.faults l.files;
}
