use Rattle.std.proofs.Common.{◌≤◌, ◌+◌, ◌++◌, ℕ, List, length}
use Rattle.lto_words.specs.Listing.{AreLinks, IsFirstBad, lines_of}
use Rattle.lto_words.specs.declared.listing.ListedLink.{ListedLink}
use Rattle.lto_words.proofs.listing.links.Given as goal

abbrev pub invariant-loop-rest : goal.invariant-loop-rest
invariant-loop-rest l = record {
  good : (more : List ListedLink) → AreLinks (length l.links + 1) (lines_of l.rest) more → AreLinks 1 (lines_of l.bytes) (l.links ++ more);
  bad : (line : ℕ) → IsFirstBad (length l.links + 1) (lines_of l.rest) line → IsFirstBad 1 (lines_of l.bytes) line;
  few : length l.links ≤ 16;
}

abbrev pub decreases-loop-rest : goal.decreases-loop-rest
decreases-loop-rest l = length l.rest
