use Rattle.std.proofs.Common.{◌≤◌, take}
use Rattle.std.specs.List.{AllZip}
use Rattle.lto_outside.specs.Calls.{DidNoPut}
use Rattle.lto_words.specs.Fetching.{fetch_calls}
use Rattle.lto_words.specs.Links.{GivenFor, all_files, all_given}
use Rattle.lto_words.proofs.linked.fetch_links.Given as goal

abbrev pub invariant-loop-link : goal.invariant-loop-link
invariant-loop-link g l = record {
  calls : g.F.Files.did l.fn.files (fetch_calls (all_files (take l.link-index l.links)) (all_given l.given)) l.files;
  each : AllZip GivenFor (take l.link-index l.links) l.given;
  no_put : DidNoPut (λ calls. g.F.Files.did l.fn.files calls l.files);
  later : g.F.Files.faults l.fn.files ≤ g.F.Files.faults l.files;
}
