-- What is made of an item of a list stands among what is made of all.
use Rattle.std.proofs.Common.{◌<◌, ℕ, List, arith, length, map, slice_index_or}
use Rattle.std.proofs.lemmas.List.{get_or-map, length-map}
use Rattle.std.specs.List.{Contains}

pub key_of : {A B : Type 0} (f : A → B) (xs : List A) (k : ℕ) (d : A) → k < length xs → Contains (map f xs) (f (slice_index_or xs k d))
key_of f xs k d lt = let same = length-map xs f in (k, omega (arith, same, lt), get_or-map f xs k d (f (slice_index_or xs k d)) lt)
