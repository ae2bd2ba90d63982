-- All files of a command are fetched, in order.
use Rattle.std.specs.Prelude.{◌≡◌, ◌≤◌, ◌^◌, ℕ, List, [], ◌∷◌, ◌++◌, length, Option, Some, None, Result, Ok, Err, ⊤}
use Rattle.lto_outside.specs.Calls.{Call, Fetched}
use Rattle.lto_outside.specs.declared.fault.FetchFault.{FetchFault}
use Rattle.lto_outside.specs.declared.fault.FetchFault.TheVariants.{Fault, TooLong}

-- a fetch and what it gave: a file's bytes, or none where they are too many
abbrev pub fetch_call : List ℕ → Option (List ℕ) → Call
fetch_call name (Some bytes) = Fetched name (Ok bytes)
fetch_call name None = Fetched name (Err TooLong)

-- the fetches of these files, and what they gave
abbrev pub fetch_calls : List (List ℕ) → List (Option (List ℕ)) → List Call
fetch_calls [] given = []
fetch_calls (name ∷ names) [] = []
fetch_calls (name ∷ names) (bytes ∷ given) = fetch_call name bytes ∷ fetch_calls names given

-- bytes that were given are 16 MiB at most
abbrev pub IsShort : Option (List ℕ) → Type 0
IsShort None = ⊤
IsShort (Some bytes) = length bytes ≤ 2 ^ 24

-- this file was fetched in vain, after those named before it, and none after it
pub record FetchFailed (did : List Call → Type 0) (names : List (List ℕ)) (name : List ℕ) : Type 0 where
  pub before : List (List ℕ)
  pub behind : List (List ℕ)
  pub split : names ≡ before ++ name ∷ behind
  pub given : List (Option (List ℕ))
  pub each : length given ≡ length before
  pub calls : did (fetch_calls before given ++ Fetched name (Err Fault) ∷ [])

-- this file was fetched once, whatever that gave
pub record IsTried (did : List Call → Type 0) (name : List ℕ) : Type 0 where
  pub answer : Result (List ℕ) FetchFault
  pub call : did (Fetched name answer ∷ [])

-- one of these files was fetched last, whatever that gave, after those named before it
pub record FetchStopped (did : List Call → Type 0) (names : List (List ℕ)) : Type 0 where
  pub before : List (List ℕ)
  pub last : List ℕ
  pub behind : List (List ℕ)
  pub split : names ≡ before ++ last ∷ behind
  pub given : List (Option (List ℕ))
  pub each : length given ≡ length before
  pub answer : Result (List ℕ) FetchFault
  pub calls : did (fetch_calls before given ++ Fetched last answer ∷ [])
