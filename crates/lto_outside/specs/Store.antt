-- What files hold, by name, and what a put does to them.
use Rattle.std.specs.Prelude.{◌≡◌, ◌≢◌, ◌⊎◌, ℕ, List, Option, None, Some, take, ⊤}

-- what each name holds, or none where no file has the name
abbrev pub Store : Type 0
Store = List ℕ → Option (List ℕ)

-- every file is as it was
abbrev pub SameFiles : Store → Store → Type 0
SameFiles old new = (name : List ℕ) → new name ≡ old name

-- every file but this one is as it was
abbrev pub OthersStay : Store → Store → List ℕ → Type 0
OthersStay old new name = (other : List ℕ) → other ≢ name → new other ≡ old other

-- told files are still told, and as they were
abbrev pub Stays : Option Store → Option Store → Type 0
Stays None new = ⊤
Stays (Some old) None = ⊥
Stays (Some old) (Some new) = SameFiles old new

-- the file holds just the bytes, and the others are as they were
pub record HasPut (old new : Store) (name bytes : List ℕ) : Type 0 where
  pub written : new name ≡ Some bytes
  pub others : OthersStay old new name

-- the file is as it was or holds some front of the bytes
abbrev pub IsPart : Store → Store → List ℕ → List ℕ → Type 0
IsPart old new name bytes = (new name ≡ old name) ⊎ ((count : ℕ) × (new name ≡ Some (take count bytes)))

-- after a put that failed
pub record HasPart (old new : Store) (name bytes : List ℕ) : Type 0 where
  pub part : IsPart old new name bytes
  pub others : OthersStay old new name
