-- Walks over a graph that is given by rows: the row of a place has the places at the other ends of its edges.
use Rattle.std.specs.Prelude.{ℕ, zero, suc, Bool, false, ◌||◌, nat_eq, List, [], length, slice_index_or}
use Rattle.std.specs.List.{list_any}

abbrev pub Graph : Type 0
Graph = List (List ℕ)

-- no edge leaves a place that has no row
abbrev pub next : Graph → ℕ → List ℕ
next graph p = slice_index_or graph p []

-- whether a walk of at least one edge, and at most so many, leads to a place
abbrev pub leads : ℕ → Graph → ℕ → ℕ → Bool
leads zero graph to from = false
leads (suc n) graph to from = list_any (λ p. nat_eq p to || leads n graph to p) (next graph from)

-- whether a walk leads from a place back to it. A walk that comes to no place twice has no more edges than there are places
abbrev pub is_on_circle : Graph → ℕ → Bool
is_on_circle graph p = leads (length graph) graph p p
