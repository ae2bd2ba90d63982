-- The bytes of a cache entry: a magic number, the two lengths, the key, the text, and nothing more.
use Rattle.std.specs.Prelude.{◌≡◌, ◌≢◌, ℕ, ◌<◌, ◌^◌, List, [], ◌++◌, length, codes}
use Rattle.std.specs.Int.{w64, to_be_bytes}

-- the eight bytes that name the format and its version
abbrev pub magic : List ℕ
magic = codes "TLTOENT1"

-- a length as eight bytes, the highest first
unfoldable pub length_field : ℕ → List ℕ
length_field n = to_be_bytes w64 n

abbrev pub entry : List ℕ → List ℕ → List ℕ
entry key text = magic ++ (length_field (length key) ++ (length_field (length text) ++ (key ++ text)))

abbrev pub IsNoEntry : List ℕ → Type 0
IsNoEntry bytes = (key text : List ℕ) → bytes ≢ entry key text

-- the bytes are the entry of this key and text, and of no other
pub record ReadsAs (bytes key text : List ℕ) : Type 0 where
  pub written : bytes ≡ entry key text
  pub alone : (other_key other_text : List ℕ) → bytes ≡ entry other_key other_text → (key ≡ other_key) × (text ≡ other_text)

-- lengths that a length field can hold, as all slices have them
abbrev pub Fits : List ℕ → List ℕ → Type 0
Fits key text = (length key < 2 ^ 64) × (length text < 2 ^ 64)

-- bytes are the entry of at most one key and text
abbrev pub ReadsOneWay : Type 0
ReadsOneWay =
    (key text other_key other_text : List ℕ) → Fits key text → Fits other_key other_text
    → entry key text ≡ entry other_key other_text → (key ≡ other_key) × (text ≡ other_text)

-- what is left of an entry after its end is cut off is no entry
abbrev pub HasNoProperPrefix : Type 0
HasNoProperPrefix =
    (key text front cut : List ℕ) → Fits key text → entry key text ≡ front ++ cut → cut ≢ []
    → (other_key other_text : List ℕ) → Fits other_key other_text → front ≢ entry other_key other_text
