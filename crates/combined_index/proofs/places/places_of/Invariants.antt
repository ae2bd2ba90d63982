use Rattle.std.proofs.Common.{◌≡◌, flat_map, length, take}
use Rattle.combined_index.specs.Tables.{ArePlaced}
use Rattle.combined_index.proofs.places.places_of.Given as goal

abbrev pub invariant-loop-number : goal.invariant-loop-number
invariant-loop-number l = record {
  len : length l.places.items ≡ l.fn.symbols;
  placed : ArePlaced l.modules l.places.items (flat_map (λ m. m) (take l.number l.modules));
}
