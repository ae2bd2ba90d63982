use Rattle.std.proofs.Common.{◌≡◌, ◌++◌, [], List, length, slice_index_or, take}
use Rattle.combined_index.specs.Tables.{ArePlaced}
use Rattle.combined_index.specs.declared.definition.Definition.{Definition}
use Rattle.combined_index.proofs.places.put_all.Given as goal

abbrev pub invariant-loop-index : goal.invariant-loop-index
invariant-loop-index l = record {
  len : length l.places ≡ length l.fn.places;
  placed : (modules : List (List Definition)) (before : List Definition) → slice_index_or modules l.number [] ≡ l.definitions → ArePlaced modules l.fn.places before
      → ArePlaced modules l.places (before ++ take l.index l.definitions);
}
