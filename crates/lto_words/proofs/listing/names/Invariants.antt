use Rattle.std.proofs.Common.{◌≡◌, map, take, true}
use Rattle.std.specs.List.{list_all}
use Rattle.lto_words.specs.Listing.{is_name}
use Rattle.lto_words.proofs.listing.names.Given as goal

abbrev pub invariant-loop-part : goal.invariant-loop-part
invariant-loop-part l = record {
  copied : l.names ≡ map (λ s. s.now) (take l.part-index l.parts);
  named : list_all (λ s. is_name s.now) (take l.part-index l.parts) ≡ true;
}
