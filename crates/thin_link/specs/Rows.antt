-- How the code's rows are seen.
use Rattle.std.specs.Prelude.{◌≡◌, ◌<◌, ℕ, List, Option, None, Vec, map, find, option_map, All, slice_index_or}
use Rattle.thin_link.specs.Listed.{Listed, is_of}
use Rattle.thin_link.specs.declared.entry.Entry.{Entry}

abbrev pub shown : Entry → Listed
shown e = record { name = e.name.now; home = e.home; definition = e.definition.now }

abbrev pub all_shown : List Entry → List Listed
all_shown = map shown

abbrev pub rows : {Z : Type 0} → List (Vec ℕ Z) → List (List ℕ)
rows lists = map (λ v. v.items) lists

-- each speaks of a symbol below the size
abbrev pub AreBelow : ℕ → List Entry → Type 0
AreBelow size entries = All (λ e. e.definition.now.symbol < size) entries

-- for each number the first of these definitions that prevails for it
abbrev pub IsTable : List (Option Entry) → List Listed → Type 0
IsTable table before = (n : ℕ) → option_map shown (slice_index_or table n None) ≡ find (is_of n) before
