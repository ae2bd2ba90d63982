-- Symbols that imported bodies refer to, as they are marked, and lists of lists, as they are filled.
use Rattle.std.specs.Prelude.{ℕ, suc, Bool, false, not, ◌&&◌, ◌||◌, nat_eq, List, [], ◌∷◌, Option, Some, None, Vec, map, slice_index_or}
use Rattle.std.specs.List.{list_any}
use Rattle.combined_index.specs.Combined.{Combined, prevailing_of}
use Rattle.combined_index.specs.declared.definition.Definition.{Definition}
use Rattle.combined_index.specs.Promotions.{is_local_to}

abbrev pub refers : Option Definition → ℕ → Bool
refers None n = false
refers (Some d) n = list_any (nat_eq n) d.refs

-- of these functions one has a body that refers to the symbol
abbrev pub is_in_one : Combined → List ℕ → ℕ → Bool
is_in_one c functions n = list_any (λ f. refers (prevailing_of c f) n) functions

-- of these modules, which are numbered from k, one other than the symbol's own imports such a body
abbrev pub is_brought : Combined → ℕ → List (List ℕ) → ℕ → Bool
is_brought c k [] n = false
is_brought c k (functions ∷ imports) n = not (is_local_to c k n) && is_in_one c functions n || is_brought c (suc k) imports n

abbrev pub rows : {Z : Type 0} → List (Vec ℕ Z) → List (List ℕ)
rows lists = map (λ v. v.items) lists

abbrev pub row : {Z : Type 0} → List (Vec ℕ Z) → ℕ → List ℕ
row lists i = slice_index_or (rows lists) i []
