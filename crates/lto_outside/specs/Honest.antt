-- When a cache's disk is honest.
use Rattle.std.specs.Prelude.{◌≡◌, ℕ, List, Option, None, Some}
use Rattle.lto_outside.specs.DiskStore.{DiskStore}

-- How the bytes of a file decode as an entry: to a key and a text, or to none.
abbrev pub Decoding : Type 0
Decoding = List ℕ → Option (List ℕ × List ℕ)

-- each entry that the bytes decode as has a text that is made of its key
abbrev pub IsHonestEntry : Decoding → (List ℕ → List ℕ → Type 0) → List ℕ → Type 0
IsHonestEntry decoded fits bytes = (key text : List ℕ) → decoded bytes ≡ Some (key, text) → fits key text

-- Each file is honest. What a disk that isn't told holds is never known to be.
abbrev pub IsHonest : Decoding → (List ℕ → List ℕ → Type 0) → Option DiskStore → Type 0
IsHonest decoded fits None = ⊥
IsHonest decoded fits (Some held) = (dir name bytes : List ℕ) → held dir name ≡ Some bytes → IsHonestEntry decoded fits bytes
