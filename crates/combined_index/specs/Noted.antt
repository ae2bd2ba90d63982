-- Final names that are noted one after another.
use Rattle.std.specs.Prelude.{◌≡◌, ◌↔◌, ℕ, true, List, Option, Some, None, slice_get, option_map, if◌then◌else◌}
use Rattle.std.specs.Borrow.{Bor}
use Rattle.std.specs.List.{list_any}
use Rattle.std.specs.Str.{bytes_eq}
use Rattle.ir_tree.specs.NameOrder.{comes_before}
use Rattle.symbol_resolve.specs.Clashes.{IsLeast}
use Rattle.combined_index.specs.Finals.{IsTaken, NoneTaken}

-- the lesser of a name and the best so far
abbrev pub lesser : Option (List ℕ) → List ℕ → Option (List ℕ)
lesser None name = Some name
lesser (Some best) name = if comes_before name best then Some name else Some best

abbrev pub text_of : Option (Bor (List ℕ)) → Option (List ℕ)
text_of = option_map (λ name. name.now)

-- a symbol has the final name
abbrev pub IsGiven : List (Option (List ℕ)) → List ℕ → Type 0
IsGiven names name = (i : ℕ) × (slice_get names i ≡ Some (Some name))

-- the least name that is taken, where there is one
abbrev pub LeastTaken : List (Option (List ℕ)) → Option (List ℕ) → Type 0
LeastTaken names None = NoneTaken names
LeastTaken names (Some name) = IsLeast (IsTaken names) name

-- these names are the keys, and the best is the least of those that came twice
pub record Noted (names : List (Option (List ℕ))) (keys : List (Bor (List ℕ))) (best : Option (List ℕ)) : Type 0 where
  pub given : (name : List ℕ) → (list_any (λ key. bytes_eq name key.now) keys ≡ true) ↔ IsGiven names name
  pub least : LeastTaken names best
