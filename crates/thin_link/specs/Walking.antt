-- A walk along chains on its way: the functions found so far, and those of the level at hand.
use Rattle.std.specs.Prelude.{◌≡◌, ◌<◌, ◌≤◌, ◌+◌, ◌⊎◌, ◌↔◌, ℕ, suc, Bool, true, false, ◌&&◌, if◌then◌else◌, nat_eq, List, [], ◌∷◌, length, Contains, count_by, flat_map}
use Rattle.lto_sets.specs.Sets.{contains}
use Rattle.combined_index.specs.Combined.{Combined}
use Rattle.combined_index.specs.declared.definition.Definition.{Definition}
use Rattle.thin_link.specs.Chains.{Chain, IsImported, callees, is_own}

-- how often a number stands in a list
abbrev pub copies : ℕ → List ℕ → ℕ
copies n xs = count_by (nat_eq n) xs

-- one for a number that hasn't been seen
abbrev pub room : List Bool → ℕ → ℕ
room seen n = if contains seen n then 0 else 1

-- how many haven't
abbrev pub unseen : List Bool → ℕ
unseen [] = 0
unseen (true ∷ seen) = unseen seen
unseen (false ∷ seen) = suc (unseen seen)

-- these numbers were looked at: those that pass and weren't seen before are seen, and stand at the end of the level
pub record Grown (ok : ℕ → Bool) (seen : List Bool) (level numbers : List ℕ) (more : List Bool) (next : List ℕ) : Type 0 where
  pub long : length more ≡ length seen
  pub fewer : unseen more + length next ≡ unseen seen + length level
  pub once : (n : ℕ) → copies n next + room more n ≡ copies n level + room seen n
  pub stays : (n : ℕ) → contains seen n ≡ true → contains more n ≡ true
  pub there : (n : ℕ) → Contains numbers n → ok n ≡ true → contains more n ≡ true
  pub from : (n : ℕ) → contains more n ≡ true → (contains seen n ≡ true) ⊎ Contains next n
  pub keeps : (n : ℕ) → Contains level n → Contains next n
  pub held : (n : ℕ) → Contains next n → Contains level n ⊎ ((contains seen n ≡ false) × Contains numbers n × (ok n ≡ true))

-- a definition that the link keeps
abbrev pub is_kept : List Bool → Definition → Bool
is_kept live d = d.prevails && contains live d.symbol

abbrev pub live_calls : List Bool → Definition → List ℕ
live_calls live d = if is_kept live d then d.calls else []

-- the callees of a module's live definitions
abbrev pub called : List Bool → List Definition → List ℕ
called live own = flat_map (live_calls live) own

-- the callees of these functions
abbrev pub called_by : Combined → List ℕ → List ℕ
called_by c level = flat_map (callees c) level

-- the module's own are seen, and no other one
abbrev pub AreOwn : List Definition → List Bool → Type 0
AreOwn own seen = (n : ℕ) → contains seen n ≡ is_own own n

-- the functions of this level end chains of this length and of none less; those found end shorter ones
pub record IsLevel (c : Combined) (live : List Bool) (limit : ℕ) (own : List Definition) (k : ℕ) (seen : List Bool) (found level : List ℕ) : Type 0 where
  pub own_seen : (n : ℕ) → is_own own n ≡ true → contains seen n ≡ true
  pub parts : (n : ℕ) → contains seen n ≡ true → (is_own own n ≡ true) ⊎ Contains found n ⊎ Contains level n
  pub sound : (n : ℕ) → Contains found n → (j : ℕ) × (j < k) × Chain c live limit own j n
  pub front : (n : ℕ) → Contains level n → Chain c live limit own k n
  pub complete : (j n : ℕ) → j ≤ k → Chain c live limit own j n → contains seen n ≡ true
  pub once : (n : ℕ) → copies n found + copies n level + room seen n ≤ 1

-- all that a module imports, each once, in any order
pub record AreFound (c : Combined) (live : List Bool) (limit : ℕ) (own : List Definition) (found : List ℕ) : Type 0 where
  pub imported : (g : ℕ) → Contains found g ↔ IsImported c live limit own g
  pub once : (g : ℕ) → copies g found ≤ 1
