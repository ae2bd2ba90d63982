-- A list that isn't empty has an innermost aggregate, from either end.
use Rattle.std.proofs.Common.{◌≡◌, false, List, [], ◌∷◌, ◌++◌, reverse, refl, ap, ◌∙◌}
use Rattle.std.proofs.lemmas.List.{reverse-append}
use Rattle.ir_parse_parts.specs.Balanced.{none_open}
use Rattle.ir_parse_globals.specs.declared.initialisers.Aggregate.{Aggregate}

last_open : (xs : List Aggregate) (x : Aggregate) → none_open (xs ++ x ∷ []) ≡ false
last_open [] x = refl
last_open (y ∷ ys) x = refl

pub some_open : (x : Aggregate) (xs : List Aggregate) → none_open (reverse (x ∷ xs)) ≡ false
some_open x xs = ap none_open (reverse-append (x ∷ []) xs) ∙ last_open (reverse xs) x
