-- Rows that stand in one flat list.
use Rattle.std.specs.Prelude.{ℕ, ◌≤◌, List, map, slice_range}
use Rattle.std.specs.List.{All}
use Rattle.ir_flow.specs.declared.graph.Extent.{Extent}

abbrev pub rows_of : List ℕ → List Extent → List (List ℕ)
rows_of flat rows = map (λ r. slice_range flat r.start r.end) rows

-- each row stands inside a flat list of this length
abbrev pub AreWithin : ℕ → List Extent → Type 0
AreWithin n rows = All (λ r. (r.start ≤ r.end) × (r.end ≤ n)) rows
