-- Lists that grow at the front, kept as links.
use Rattle.std.specs.Prelude.{◌≡◌, ℕ, suc, ◌<◌, ◌≤◌, List, [], ◌∷◌, length, slice_get, slice_index_or, Option, Some, None}
use Rattle.ir_flow.specs.declared.chains.Link.{Link}
use Rattle.ir_flow.specs.Graph.{row}

-- one past a link's number; 0 where there is none
abbrev pub past : Option ℕ → ℕ
past None = 0
past (Some i) = suc i

-- each link leads to one that was made before it
pub record IsLinked (links : List Link) (heads : List (Option ℕ)) : Type 0 where
  pub back : (i : ℕ) (link : Link) → slice_get links i ≡ Some link → past link.next ≤ i
  pub heads_in : (k : ℕ) → past (slice_index_or heads k None) ≤ length links

-- the items from a link on
abbrev pub IsChain : List Link → Option ℕ → List ℕ → Type 0
IsChain links head [] = head ≡ None
IsChain links head (v ∷ vs) =
    (i : ℕ) × (next : Option ℕ) × (head ≡ Some i) × (slice_get links i ≡ Some (record { value = v; next = next })) × IsChain links next vs

-- each key has this list
abbrev pub AreChains : List Link → List (Option ℕ) → (ℕ → List ℕ) → Type 0
AreChains links heads lists = (k : ℕ) → k < length heads → IsChain links (slice_index_or heads k None) (lists k)

-- the rows of the numbers below a limit
abbrev pub AreRows : ℕ → (ℕ → List ℕ) → List (List ℕ) → Type 0
AreRows limit lists rows = (length rows ≡ limit) × ((k : ℕ) → k < limit → row rows k ≡ lists k)
