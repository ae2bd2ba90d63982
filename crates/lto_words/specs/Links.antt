-- What the links of a batch fetch and put.
use Rattle.std.specs.Prelude.{◌≡◌, ℕ, List, [], ◌∷◌, ◌++◌, All, Option, Some, length, take, slice_get, true, false}
use Rattle.lto_outside.specs.Calls.{Call, Put}
use Rattle.lto_words.specs.Fetching.{IsShort}
use Rattle.lto_words.specs.declared.listing.ListedLink.{ListedLink}

-- ---- fetches

-- the modules of all links, link by link
abbrev pub all_files : List ListedLink → List (List ℕ)
all_files [] = []
all_files (link ∷ links) = link.files ++ all_files links

-- what was given for all of them
abbrev pub all_given : List (List (Option (List ℕ))) → List (Option (List ℕ))
all_given [] = []
all_given (given ∷ rest) = given ++ all_given rest

-- this was given for the link: as many as it has modules, each of 16 MiB at most or none
pub record GivenFor (link : ListedLink) (given : List (Option (List ℕ))) : Type 0 where
  pub each : length given ≡ length link.files
  pub short : All IsShort given

-- ---- puts

-- the puts of the links' texts
abbrev pub puts : List ListedLink → List (List ℕ) → List Call
puts [] texts = []
puts (link ∷ links) [] = []
puts (link ∷ links) (text ∷ texts) = Put link.out text true ∷ puts links texts

-- the put of the link at this place failed, behind those before it
pub record PutFailed (did : List Call → Type 0) (links : List ListedLink) (texts : List (List ℕ)) (at : ℕ) : Type 0 where
  pub link : ListedLink
  pub text : List ℕ
  pub of_link : slice_get links at ≡ Some link
  pub of_text : slice_get texts at ≡ Some text
  pub calls : did (puts (take at links) (take at texts) ++ Put link.out text false ∷ [])
